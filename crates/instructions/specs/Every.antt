-- A test of every number below a power of two, computed by halves, and the fact at each.
use Rattle.std.specs.Prelude.{◌≡◌, refl, Bool, true, false, ℕ, zero, suc, ◌+◌, ◌^◌, ◌<◌, ◌≤◌, T, ltb}
use Rattle.std.proofs.Common.{subst, arith, pow-suc, ltb-true, ltb-false, lt-ltb, le-leb}
use Rattle.instructions.specs.Encoding.{both, between}

pub both_left : (a b : Bool) → T (both a b) → T a
both_left true b t = tt
both_left false b t = t

pub both_right : (a b : Bool) → T (both a b) → T b
both_right true b t = t
both_right false b t = absurd t

-- f passes at each of the 2 ^ k numbers from b on
abbrev pub all : (ℕ → Bool) → ℕ → ℕ → Bool
all f zero b = f b
all f (suc k) b = both (all f k b) (all f k (b + 2 ^ k))

pub by_order : {P : Type 0} (a b : ℕ) → (a < b → P) → (b ≤ a → P) → P
by_order {P} a b y n = go (ltb a b) refl
  where
    go : (t : Bool) → ltb a b ≡ t → P
    go true e = y (ltb-true a b e)
    go false e = n (ltb-false a b e)

pub all_at : (f : ℕ → Bool) (k b w : ℕ) → T (all f k b) → b ≤ w → w < b + 2 ^ k → T (f w)
all_at f zero b w t lo hi = let e : b ≡ w = omega arith in subst (λ (n : ℕ). T (f n)) e t
all_at f (suc k) b w t lo hi =
    by_order w (b + 2 ^ k)
    (λ h. all_at f k b w (both_left (all f k b) (all f k (b + 2 ^ k)) t) lo h)
    (λ h. all_at f k (b + 2 ^ k) w (both_right (all f k b) (all f k (b + 2 ^ k)) t) h (omega (arith, pow-suc 2 k)))

pub between_is : (a b k : ℕ) → a ≤ k → k < b → between a b k ≡ true
between_is a b k lo hi = rw (le-leb a k lo, lt-ltb k b hi)

pub both_true : (b : Bool) → both b true ≡ b
both_true true = refl
both_true false = refl
