-- Facts about whole numbers in a form that omega reads: every whole number is `up z` less `dn z`, and each operation has one equation, linear in those.
use Rattle.std.specs.Prelude.{◌≡◌, refl, Bool, true, false, not, cond, ℕ, zero, suc, ◌+◌, ◌*◌, ◌-◌, ◌≤◌, ◌<◌, T, ltb, ℤ, pos, negsuc, neg_ℤ, ◌+ℤ◌, ◌-ℤ◌, ◌*ℤ◌, nat_abs, ◌≤ℤ◌}
use Rattle.std.proofs.Common.{ap, arith, ltb→lt, nltb→le, leb→le, le→leb}
use Rattle.std.proofs.Math.Nat.{mul-div-le, lt-mul-div-succ}
use Rattle.std.proofs.Math.IntN.{sub_ℕ}
use Rattle.std.specs.Int.Signed.{le_z, shr_z}

abbrev pub up : ℤ → ℕ
up (pos n) = n
up (negsuc n) = 0

abbrev pub dn : ℤ → ℕ
dn (pos n) = 0
dn (negsuc n) = suc n

-- z is a less b
pub record Is (z : ℤ) (a b : ℕ) : Type 0 where
  pub is : up z + b ≡ a + dn z

cond_is : (c : Bool) (x y : ℤ) (a b : ℕ) → (T c → Is x a b) → (T (not c) → Is y a b) → Is (cond c x y) a b
cond_is true x y a b f g = f tt
cond_is false x y a b f g = g tt

sub_ok : (a b : ℕ) → Is (sub_ℕ a b) a b
sub_ok a b =
    cond_is (ltb a b) (negsuc (b - suc a)) (pos (a - b)) a b
    (λ t. let h : a < b = ltb→lt a b t in record { is = omega arith })
    (λ t. let h : b ≤ a = nltb→le a b t in record { is = omega arith })

pub sub_is : (a b : ℕ) → up (sub_ℕ a b) + b ≡ a + dn (sub_ℕ a b)
sub_is a b = (sub_ok a b).is

pub add_is : (m k : ℤ) → up (m +ℤ k) + (dn m + dn k) ≡ (up m + up k) + dn (m +ℤ k)
add_is (pos a) (pos b) = omega arith
add_is (pos a) (negsuc b) = omega (arith, sub_is a (suc b))
add_is (negsuc a) (pos b) = omega (arith, sub_is b (suc a))
add_is (negsuc a) (negsuc b) = omega arith

pub neg_is : (k : ℤ) → (up (neg_ℤ k) ≡ dn k) × (dn (neg_ℤ k) ≡ up k)
neg_is (pos zero) = (refl, refl)
neg_is (pos (suc n)) = (refl, refl)
neg_is (negsuc n) = (refl, refl)

pub minus_is : (m k : ℤ) → up (m -ℤ k) + (dn m + up k) ≡ (up m + dn k) + dn (m -ℤ k)
minus_is m k = omega (arith, add_is m (neg_ℤ k), neg_is k)

-- at most one of the two parts is not zero: by cases
pub part : (z : ℤ) {G : Type 0} → (dn z ≡ 0 → G) → (up z ≡ 0 → 1 ≤ dn z → G) → G
part (pos n) f g = f refl
part (negsuc n) f g = g refl (omega arith)

pub no_up : (z : ℤ) → 1 ≤ dn z → up z ≡ 0
no_up (pos n) h = absurd (omega arith)
no_up (negsuc n) h = refl

-- equal
pub eq_to : {a b : ℤ} → a ≡ b → up a + dn b ≡ up b + dn a
eq_to {a} {b} e = omega (arith, ap up e, ap dn e)

pub eq_from : (a b : ℤ) → up a + dn b ≡ up b + dn a → a ≡ b
eq_from (pos a) (pos b) h = ap pos (omega arith)
eq_from (pos a) (negsuc b) h = absurd (omega arith)
eq_from (negsuc a) (pos b) h = absurd (omega arith)
eq_from (negsuc a) (negsuc b) h = ap negsuc (omega arith)

-- the order
le_from' : (a b : ℤ) → up a + dn b ≤ up b + dn a → T (le_z a b)
le_from' (pos a) (pos b) h = le→leb a b (omega arith)
le_from' (pos a) (negsuc b) h = absurd (omega arith)
le_from' (negsuc a) (pos b) h = tt
le_from' (negsuc a) (negsuc b) h = le→leb b a (omega arith)

pub le_from : {a b : ℤ} → up a + dn b ≤ up b + dn a → a ≤ℤ b
le_from {a} {b} h = record { le = le_from' a b h }

le_to' : (a b : ℤ) → T (le_z a b) → up a + dn b ≤ up b + dn a
le_to' (pos a) (pos b) h = omega (arith, leb→le a b h)
le_to' (pos a) (negsuc b) h = absurd h
le_to' (negsuc a) (pos b) h = omega arith
le_to' (negsuc a) (negsuc b) h = omega (arith, leb→le b a h)

pub le_to : {a b : ℤ} → a ≤ℤ b → up a + dn b ≤ up b + dn a
le_to {a} {b} h = le_to' a b h.le

-- a natural multiple
pub times_is : (k : ℕ) (z : ℤ) → (up (pos k *ℤ z) ≡ k * up z) × (dn (pos k *ℤ z) ≡ k * dn z)
times_is k (pos a) = (refl, omega arith)
times_is k (negsuc a) = (omega (arith, neg_is (pos (k * suc a))), omega (arith, neg_is (pos (k * suc a))))

-- rounded down: m times it lies at or below z, by less than m
pub floor_le : (z : ℤ) (m : ℕ) → zero < m → m * up (shr_z z m) + dn z ≤ up z + m * dn (shr_z z m)
floor_le (pos a) m h = omega (arith, mul-div-le a m)
floor_le (negsuc a) m h = omega (arith, lt-mul-div-succ a h)

pub floor_lt : (z : ℤ) (m : ℕ) → zero < m → up z + m * dn (shr_z z m) < m * up (shr_z z m) + dn z + m
floor_lt (pos a) m h = omega (arith, lt-mul-div-succ a h)
floor_lt (negsuc a) m h = omega (arith, mul-div-le a m)

pub one_times : (z : ℤ) → pos 1 *ℤ z ≡ z
one_times z = eq_from _ _ (omega (arith, times_is 1 z))

pub abs_is : (z : ℤ) → nat_abs z ≡ up z + dn z
abs_is (pos n) = omega arith
abs_is (negsuc n) = omega arith
