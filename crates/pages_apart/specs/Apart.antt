-- No two pages have a word in common, but for ZAC, NOP and LARP; and so each page's words decode to what that page makes of them.
use Rattle.std.specs.Prelude.{◌≡◌, refl, Bool, true, false, not, List, [], ◌∷◌, ℕ, zero, suc, ◌+◌, ◌/◌, ◌%◌, ◌<◌, ◌≤◌, T, leb}
use Rattle.std.proofs.Common.{◌∙◌, ap, subst, arith, leb→le}
use Prim.Native.String.{String}
use Rattle.instructions.specs.Every.{both_left, both_right}
use Rattle.instructions.specs.Encoding.{Page, pick, both, printed_at, fits, modifies, reserved, low_fits, has}
use Rattle.instructions.specs.Pages.{pages}
use Rattle.instructions.specs.Decode.{decode_of}
use Rattle.instructions.specs.Places.{place_in, meaning_in, upper_in, pages_of, first_place}
use Rattle.kinds.specs.Sieve.{fitting, sieve, sieve_at, at_uppers, upper_at}
use Rattle.pages_apart.specs.Having.{has_at}

-- Test: of the pages es, those with the low byte stand at 130 or past it, with ZAC, NOP and LARP.
only_shared : List (ℕ × String) → ℕ → Bool
only_shared [] low = true
only_shared (e ∷ es) low = pick (low_fits e.1 low) (both (leb 130 e.0) (only_shared es low)) (only_shared es low)

-- Test: at most one of the pages es that stand before 130 has the low byte, and it is the first that has it.
apart : List (ℕ × String) → ℕ → Bool
apart [] low = true
apart (e ∷ es) low = pick (low_fits e.1 low) (only_shared es low) (apart es low)

lower_text : (ℕ × String) → String
lower_text e = e.1

all_apart : List (ℕ × String) → Bool
all_apart [] = true
all_apart (e ∷ []) = true
all_apart (e ∷ (f ∷ es)) = sieve lower_text (λ low fs. apart fs low) 8 0 (e ∷ (f ∷ es))

tested : T (at_uppers (λ u es. all_apart es))
unfolding all_apart apart only_shared lower_text low_fits
tested = tt

-- What a low byte's bits are beside: a modification is not the reserved one.
unreserved : String → ℕ → Bool
unreserved t low = pick (modifies (printed_at t 6)) (not (reserved low)) true

only_printed : (es : List (ℕ × String)) (low : ℕ) → only_shared (fitting lower_text 8 low es) low ≡ only_shared es low
unfolding only_shared lower_text low_fits unreserved
only_printed [] low = refl
only_printed (e ∷ es) low = go (fits e.1 8 low) (unreserved e.1 low) refl (only_printed es low)
  where
    go : (f m : Bool) → both f m ≡ low_fits e.1 low → only_shared (fitting lower_text 8 low es) low ≡ only_shared es low
        → only_shared (pick f (e ∷ fitting lower_text 8 low es) (fitting lower_text 8 low es)) low
        ≡ pick (both f m) (both (leb 130 e.0) (only_shared es low)) (only_shared es low)
    go true m q h = rw (q, h)
    go false m q h = h

apart_printed : (es : List (ℕ × String)) (low : ℕ) → apart (fitting lower_text 8 low es) low ≡ apart es low
unfolding apart lower_text low_fits unreserved
apart_printed [] low = refl
apart_printed (e ∷ es) low =
    go (fits e.1 8 low) (unreserved e.1 low) refl (only_printed es low) (apart_printed es low)
  where
    go : (f m : Bool) → both f m ≡ low_fits e.1 low → only_shared (fitting lower_text 8 low es) low ≡ only_shared es low
        → apart (fitting lower_text 8 low es) low ≡ apart es low
        → apart (pick f (e ∷ fitting lower_text 8 low es) (fitting lower_text 8 low es)) low ≡ pick (both f m) (only_shared es low) (apart es low)
    go true m q g h = rw (q, g, h)
    go false m q g h = h

all_apart_lem : (es : List (ℕ × String)) (low : ℕ) → low < 256 → T (all_apart es) → T (apart es low)
unfolding all_apart apart only_shared
all_apart_lem [] low h t = tt
all_apart_lem (e ∷ []) low h t = one (low_fits e.1 low)
  where
    one : (b : Bool) → T (pick b true true)
    one true = tt
    one false = tt
all_apart_lem (e ∷ (f ∷ es)) low h t =
    subst (λ (b : Bool). T b) (apart_printed (e ∷ (f ∷ es)) low)
    (sieve_at lower_text (λ low fs. apart fs low) 8 0 low (e ∷ (f ∷ es)) t (omega arith))

only_left : (l a b : Bool) → T (pick l (both a b) b) → T l → T a
only_left true a b o h = both_left a b o
only_left false a b o h = absurd h

only_right : (l a b : Bool) → T (pick l (both a b) b) → T b
only_right true a b o = both_right a b o
only_right false a b o = o

-- A page among those that may only be shared stands at 130 or past it.
shared_place : (rs : List Page) (i p w : ℕ) → T (only_shared (upper_in (w / 256) i rs) (w % 256)) → T (has_at rs p w) → 130 ≤ i + p
unfolding only_shared
shared_place [] i p w o h = absurd h
shared_place (r ∷ rs) i zero w o h = go (fits r.upper 8 (w / 256)) o h
  where
    go : (f : Bool)
        → T (only_shared (pick f ((i, r.lower) ∷ upper_in (w / 256) (suc i) rs) (upper_in (w / 256) (suc i) rs)) (w % 256))
        → T (both f (low_fits r.lower (w % 256))) → 130 ≤ i + zero
    go true o h =
        let t : 130 ≤ i
        = leb→le 130 i
        (only_left (low_fits r.lower (w % 256)) (leb 130 i) (only_shared (upper_in (w / 256) (suc i) rs) (w % 256)) o h) in
        omega arith
    go false o h = absurd h
shared_place (r ∷ rs) i (suc p) w o h =
    let q : 130 ≤ suc i + p = shared_place rs (suc i) p w (go (fits r.upper 8 (w / 256)) o) h in omega arith
  where
    go : (f : Bool)
        → T (only_shared (pick f ((i, r.lower) ∷ upper_in (w / 256) (suc i) rs) (upper_in (w / 256) (suc i) rs)) (w % 256))
        → T (only_shared (upper_in (w / 256) (suc i) rs) (w % 256))
    go true o = only_right (low_fits r.lower (w % 256)) (leb 130 i) (only_shared (upper_in (w / 256) (suc i) rs) (w % 256)) o
    go false o = o

own_place : (rs : List Page) (i p w : ℕ) → T (apart (upper_in (w / 256) i rs) (w % 256)) → T (has_at rs p w) → i + p < 130
    → place_in rs w ≡ p
unfolding apart
own_place [] i p w a h l = absurd h
own_place (r ∷ rs) i zero w a h l = go (has r w) h
  where
    go : (b : Bool) → T b → pick b 0 (suc (place_in rs w)) ≡ zero
    go true t = refl
    go false t = absurd t
own_place (r ∷ rs) i (suc p) w a h l =
    go (fits r.upper 8 (w / 256)) (λ b. ap suc (own_place rs (suc i) p w b h (omega arith)))
    (λ o. let q : 130 ≤ suc i + p = shared_place rs (suc i) p w o h in omega arith) a
  where
    step : (b : Bool) → (T (apart (upper_in (w / 256) (suc i) rs) (w % 256)) → suc (place_in rs w) ≡ suc p)
        → (T (only_shared (upper_in (w / 256) (suc i) rs) (w % 256)) → ⊥)
        → T (pick b (only_shared (upper_in (w / 256) (suc i) rs) (w % 256)) (apart (upper_in (w / 256) (suc i) rs) (w % 256)))
        → pick b 0 (suc (place_in rs w)) ≡ suc p
    step true f g a = absurd (g a)
    step false f g a = f a

    go : (u : Bool) → (T (apart (upper_in (w / 256) (suc i) rs) (w % 256)) → suc (place_in rs w) ≡ suc p)
        → (T (only_shared (upper_in (w / 256) (suc i) rs) (w % 256)) → ⊥)
        → T (apart (pick u ((i, r.lower) ∷ upper_in (w / 256) (suc i) rs) (upper_in (w / 256) (suc i) rs)) (w % 256))
        → pick (both u (low_fits r.lower (w % 256))) 0 (suc (place_in rs w)) ≡ suc p
    go true f g a = step (low_fits r.lower (w % 256)) f g a
    go false f g a = f a

-- Places 0 to 129 are all pages but ZAC, NOP and LARP: of these no two have a word in common.
pub own_page : (p w : ℕ) → w < 65536 → p < 130 → T (has_at pages p w) → place_in pages w ≡ p
unfolding pages_of
own_page p w h l t =
    own_place pages 0 p w
    (all_apart_lem (pages_of (w / 256)) (w % 256) (omega arith)
    (upper_at (λ u es. all_apart es) tested (w / 256) (omega arith))) t (omega arith)

-- A word of such a page decodes to what that page makes of it.
pub own_meaning : (p w : ℕ) → w < 65536 → p < 130 → T (has_at pages p w) → decode_of w ≡ meaning_in pages p w
unfolding decode_of
own_meaning p w h l t = first_place pages w ∙ ap (λ (q : ℕ). meaning_in pages q w) (own_page p w h l t)
