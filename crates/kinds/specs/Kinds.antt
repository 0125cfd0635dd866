-- The kinds that a table of upper bytes holds, and the place of a word's page from its kind and its low byte.
use Rattle.std.specs.Prelude.{◌≡◌, refl, Bool, true, false, List, [], ◌∷◌, ℕ, ◌<◌, T, eqb, ltb, get_or}
use Rattle.std.proofs.Common.{◌∙◌, arith, eqb→eq}
use Prim.Native.String.{String}
use lib.Text.{eqt, eqt→eq}
use Rattle.instructions.specs.Every.{both_left, both_right, all, all_at}
use Rattle.instructions.specs.Encoding.{pick, both, between, find, low_fits}
use Rattle.instructions.specs.Places.{lower_in, pages_of}
use Rattle.kinds.specs.Sieve.{at_uppers, upper_at}

-- the first place of a list, or 133
abbrev first_of : List (ℕ × String) → ℕ
first_of [] = 133
first_of (e ∷ es) = e.0

-- What the table of upper bytes holds, from the first place with that upper byte: 200 for CEh, 201 for the long immediates, 202 for
-- them without LRLK, and the place itself for the others, where that page decides.
abbrev kind_at : ℕ → ℕ → ℕ
kind_at u p = pick (eqb u 0xCE) 200 (pick (ltb p 123) p (pick (eqb p 123) 201 202))

unfoldable pub kind_of : ℕ → ℕ
kind_of u = kind_at u (first_of (pages_of u))

abbrev pub or : Bool → Bool → Bool
or true b = true
or false b = b

-- the kinds with a low byte "IDDD DDDD"
unfoldable pub is_addressed : ℕ → Bool
is_addressed k = or (or (or (or (ltb k 15) (between 23 37 k)) (between 42 46 k)) (between 62 66 k)) (between 75 95 k)

-- the kinds with a low byte "1DDD DDDD"
unfoldable pub is_branch : ℕ → Bool
is_branch k = or (between 50 61 k) (between 95 100 k)

-- the pages of a kind that is a group: those with the first upper byte of it
unfoldable pub group_of : ℕ → List (ℕ × String)
group_of k = pages_of (find 0xD8 ((200, 0xCE) ∷ (201, 0xD0) ∷ []) k)

unfoldable pub place_of_kind : ℕ → ℕ → ℕ
place_of_kind k low =
    pick (is_addressed k) (pick (low_fits "IDDD DDDD" low) k 133)
    (pick (is_branch k) (pick (low_fits "1DDD DDDD" low) k 133)
    (pick (ltb k 200) k (lower_in 133 (group_of k) low)))

-- Test: a low byte of one of the pages es is a low byte as t prints it.
none_of : List (ℕ × String) → ℕ → Bool
none_of [] low = true
none_of (e ∷ es) low = pick (low_fits e.1 low) false (none_of es low)

shadowed : String → List (ℕ × String) → Bool
shadowed t [] = true
shadowed t (e ∷ es) = all (λ low. pick (low_fits t low) true (none_of (e ∷ es) low)) 8 0

headed : ℕ → String → List (ℕ × String) → Bool
headed k t [] = false
headed k t (e ∷ es) = both (eqb e.0 k) (both (eqt e.1 t) (shadowed t es))

same_as : List (ℕ × String) → List (ℕ × String) → Bool
same_as [] [] = true
same_as [] (f ∷ fs) = false
same_as (e ∷ es) [] = false
same_as (e ∷ es) (f ∷ fs) = both (eqb e.0 f.0) (both (eqt e.1 f.1) (same_as es fs))

-- Test: the pages es are those of the kind k.
pub agree : List (ℕ × String) → ℕ → Bool
agree es k =
    pick (is_addressed k) (headed k "IDDD DDDD" es)
    (pick (is_branch k) (headed k "1DDD DDDD" es)
    (pick (ltb k 200) (headed k "KKKK KKKK" es) (same_as es (group_of k))))

unfoldable pub agree_at : ℕ → List (ℕ × String) → Bool
agree_at u es = agree es (kind_at u (first_of es))

-- the agreement of kinds and pages, over all upper bytes
pub agreed : T (at_uppers agree_at)
unfolding agree agree_at is_addressed is_branch same_as headed shadowed none_of group_of pages_of kind_of low_fits
agreed = tt

none_lower : (es : List (ℕ × String)) (low : ℕ) → T (none_of es low) → lower_in 133 es low ≡ 133
unfolding none_of
none_lower [] low t = refl
none_lower (e ∷ es) low t = go (low_fits e.1 low) (none_lower es low) t
  where
    go : (b : Bool) → (T (none_of es low) → lower_in 133 es low ≡ 133) → T (pick b false (none_of es low))
        → pick b e.0 (lower_in 133 es low) ≡ 133
    go true f t = absurd t
    go false f t = f t

shadowed_lower : (k : ℕ) (t : String) (es : List (ℕ × String)) (low : ℕ) → low < 256 → T (shadowed t es)
    → pick (low_fits t low) k (lower_in 133 es low) ≡ pick (low_fits t low) k 133
unfolding shadowed
shadowed_lower k t [] low h s = refl
shadowed_lower k t (e ∷ es) low h s =
    go (low_fits t low)
    (all_at (λ l. pick (low_fits t l) true (none_of (e ∷ es) l)) 8 0 low s (omega arith) (omega arith))
    (none_lower (e ∷ es) low)
  where
    go : (b : Bool) → T (pick b true (none_of (e ∷ es) low)) → (T (none_of (e ∷ es) low) → lower_in 133 (e ∷ es) low ≡ 133)
        → pick b k (lower_in 133 (e ∷ es) low) ≡ pick b k 133
    go true t f = refl
    go false t f = f t

headed_lower : (k : ℕ) (t : String) (es : List (ℕ × String)) (low : ℕ) → low < 256 → T (headed k t es)
    → lower_in 133 es low ≡ pick (low_fits t low) k 133
unfolding headed
headed_lower k t [] low h p = absurd p
headed_lower k t (e ∷ es) low h p =
    let q : T (both (eqt e.1 t) (shadowed t es)) = both_right (eqb e.0 k) (both (eqt e.1 t) (shadowed t es)) p in
    let k_is : e.0 ≡ k = eqb→eq e.0 k (both_left (eqb e.0 k) (both (eqt e.1 t) (shadowed t es)) p) in
    let t_is : e.1 ≡ t = eqt→eq e.1 t (both_left (eqt e.1 t) (shadowed t es) q) in
    rw (k_is, t_is) (shadowed_lower k t es low h (both_right (eqt e.1 t) (shadowed t es) q))

same_lower : (es fs : List (ℕ × String)) (low : ℕ) → T (same_as es fs) → lower_in 133 es low ≡ lower_in 133 fs low
unfolding same_as
same_lower [] [] low p = refl
same_lower [] (f ∷ fs) low p = absurd p
same_lower (e ∷ es) [] low p = absurd p
same_lower (e ∷ es) (f ∷ fs) low p =
    let q : T (both (eqt e.1 f.1) (same_as es fs))
    = both_right (eqb e.0 f.0) (both (eqt e.1 f.1) (same_as es fs)) p in
    let k_is : e.0 ≡ f.0 = eqb→eq e.0 f.0 (both_left (eqb e.0 f.0) (both (eqt e.1 f.1) (same_as es fs)) p) in
    let t_is : e.1 ≡ f.1 = eqt→eq e.1 f.1 (both_left (eqt e.1 f.1) (same_as es fs) q) in
    rw (k_is, t_is, same_lower es fs low (both_right (eqt e.1 f.1) (same_as es fs) q))

every_low : (k low : ℕ) → pick (low_fits "KKKK KKKK" low) k 133 ≡ k
unfolding low_fits
every_low k low = refl

pub agree_lower : (es : List (ℕ × String)) (k low : ℕ) → low < 256 → T (agree es k) → lower_in 133 es low ≡ place_of_kind k low
unfolding agree place_of_kind
agree_lower es k low h t = go (is_addressed k) (is_branch k) (ltb k 200) t
  where
    go : (a b c : Bool)
        → T (pick a (headed k "IDDD DDDD" es) (pick b (headed k "1DDD DDDD" es) (pick c (headed k "KKKK KKKK" es) (same_as es (group_of k)))))
        → lower_in 133 es low
        ≡ pick a (pick (low_fits "IDDD DDDD" low) k 133)
        (pick b (pick (low_fits "1DDD DDDD" low) k 133) (pick c k (lower_in 133 (group_of k) low)))
    go true b c t = headed_lower k "IDDD DDDD" es low h t
    go false true c t = headed_lower k "1DDD DDDD" es low h t
    go false false true t = headed_lower k "KKKK KKKK" es low h t ∙ every_low k low
    go false false false t = same_lower es (group_of k) low t

-- Test: each of the 256 entries is its upper byte's kind.
unfoldable pub right_table : List ℕ → Bool
right_table t = at_uppers (λ u es. eqb (get_or t u 0) (kind_at u (first_of es)))

pub table_right : (t : List ℕ) (u : ℕ) → u < 256 → T (right_table t) → get_or t u 0 ≡ kind_of u
unfolding right_table kind_of
table_right t u h r =
    eqb→eq (get_or t u 0) (kind_of u) (upper_at (λ v es. eqb (get_or t v 0) (kind_at v (first_of es))) r u h)
