-- The places of the pages of CEh and of the long immediates by their low bytes.
use Rattle.std.specs.Prelude.{◌≡◌, refl, Bool, true, false, not, List, [], ◌∷◌, ℕ, ◌+◌, ◌/◌, ◌%◌, ◌<◌, T, eqb, ltb, leb, get_or}
use Rattle.std.proofs.Common.{◌∙◌, arith, eqb→eq, ne_eqb}
use Prim.Native.String.{String}
use Rattle.instructions.specs.Encoding.{pick, both, fits, low_fits, printed_at, modifies, reserved}
use Rattle.instructions.specs.Places.{lower_in, pages_of}
use Rattle.kinds.specs.Sieve.{fitting, sieve, sieve_at}
use Rattle.kinds.specs.Kinds.{group_of}

-- CEh: a list for the low bytes below 64, CMPR and NORM
unfoldable pub control_place : List ℕ → ℕ → ℕ
control_place below low =
    pick (ltb low 64) (get_or below low 0)
    (pick (eqb (low / 4) 20) 102
    (pick (both (both (leb 128 low) (eqb (low % 16) 2)) (not (eqb (low / 16) 11))) 122 133))

-- the long immediates: the low bytes 0 (LRLK) or 1 to 6
unfoldable pub long_place : ℕ → ℕ → ℕ
long_place least low = pick (ltb low 7) (pick (ltb low least) 133 (123 + low)) 133

-- Test: f is the place of the first of es that has the low byte.
same : (ℕ → ℕ) → List (ℕ × String) → Bool
same f es = sieve (λ (e : ℕ × String). e.1) (λ low fs. eqb (f low) (lower_in 133 fs low)) 8 0 es

-- a page with a low byte prints its bits
printed_lower : (es : List (ℕ × String)) (low : ℕ) → lower_in 133 (fitting (λ (e : ℕ × String). e.1) 8 low es) low ≡ lower_in 133 es low
unfolding low_fits
printed_lower [] low = refl
printed_lower (e ∷ es) low =
    go (fits e.1 8 low) (pick (modifies (printed_at e.1 6)) (not (reserved low)) true) refl (printed_lower es low)
  where
    go : (f m : Bool) → both f m ≡ low_fits e.1 low
        → lower_in 133 (fitting (λ (e : ℕ × String). e.1) 8 low es) low ≡ lower_in 133 es low
        → lower_in 133 (pick f (e ∷ fitting (λ (e : ℕ × String). e.1) 8 low es) (fitting (λ (e : ℕ × String). e.1) 8 low es)) low
        ≡ pick (both f m) e.0 (lower_in 133 es low)
    go true m q h = rw (q, h)
    go false m q h = h

same_at : (f : ℕ → ℕ) (es : List (ℕ × String)) → T (same f es) → (low : ℕ) → low < 256 → f low ≡ lower_in 133 es low
unfolding same
same_at f es t low h =
    eqb→eq (f low) _
    (sieve_at (λ (e : ℕ × String). e.1) (λ low fs. eqb (f low) (lower_in 133 fs low)) 8 0 low es t (omega arith))
    ∙ printed_lower es low

-- the places below 64, as the code's table has them
unfoldable pub controls : List ℕ
controls = 104 ∷ 103 ∷ 68 ∷ 67 ∷ 71 ∷ 72 ∷ 70 ∷ 69 ∷ 41 ∷ 41 ∷ 41 ∷ 41 ∷ 114 ∷ 120 ∷ 105 ∷ 105 ∷ 133 ∷ 133 ∷ 133 ∷ 133 ∷ 38 ∷ 39 ∷ 40 ∷ 133 ∷ 21 ∷ 22 ∷ 133 ∷ 20 ∷ 73 ∷ 74 ∷ 121 ∷ 106 ∷ 113 ∷ 119 ∷ 133 ∷ 19 ∷ 101 ∷ 100 ∷ 61 ∷ 18 ∷ 133 ∷ 133 ∷ 133 ∷ 133 ∷ 133 ∷ 133 ∷ 133 ∷ 133 ∷ 107 ∷ 115 ∷ 112 ∷ 118 ∷ 110 ∷ 111 ∷ 108 ∷ 116 ∷ 109 ∷ 117 ∷ 133 ∷ 133 ∷ 133 ∷ 133 ∷ 133 ∷ 133 ∷ []

pub control_place_lem : (low : ℕ) → low < 256 → control_place controls low ≡ lower_in 133 (group_of 200) low
unfolding control_place controls same group_of pages_of low_fits
control_place_lem low h = same_at (control_place controls) (group_of 200) tt low h

pub long_place_lem : (low : ℕ) → low < 256 → long_place 0 low ≡ lower_in 133 (group_of 201) low
unfolding long_place same group_of pages_of low_fits
long_place_lem low h = same_at (long_place 0) (group_of 201) tt low h

pub long_place_1 : (low : ℕ) → low < 256 → long_place 1 low ≡ lower_in 133 (group_of 202) low
unfolding long_place same group_of pages_of low_fits
long_place_1 low h = same_at (long_place 1) (group_of 202) tt low h

pub group_else : (k : ℕ) → (k ≡ 200 → ⊥) → (k ≡ 201 → ⊥) → group_of k ≡ group_of 202
unfolding group_of
group_else k a b = rw (ne_eqb k 200 a, ne_eqb k 201 b)
