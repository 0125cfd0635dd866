-- The place of a word's page in the list of pages, found by the upper byte first.
use Rattle.std.specs.Prelude.{◌≡◌, refl, Bool, true, false, List, [], ◌∷◌, ℕ, zero, suc, ◌+◌, ◌/◌, ◌%◌, length}
use Prim.Native.String.{String}
use Rattle.std.proofs.Common.{arith}
use Rattle.instructions.specs.Encoding.{Page, pick, both, fits, low_fits, has, means, first}
use Rattle.instructions.specs.Pages.{pages, base_pages}
use Rattle.instructions.specs.Decode.{decode_of}
use Rattle.instructions.specs.declared.Decoded.{Decoded}
use Rattle.instructions.specs.declared.Decoded.TheVariants.{Nothing}

-- the place of the first page that has the word; the list's length where none does
abbrev pub place_in : List Page → ℕ → ℕ
place_in [] w = 0
place_in (r ∷ rs) w = pick (has r w) 0 (suc (place_in rs w))

-- what the page at a place makes of a word
abbrev pub meaning_in : List Page → ℕ → ℕ → Decoded
meaning_in [] p w = Nothing
meaning_in (r ∷ rs) zero w = means r w
meaning_in (r ∷ rs) (suc p) w = meaning_in rs p w

pub first_place : (rs : List Page) (w : ℕ) → first rs w ≡ meaning_in rs (place_in rs w) w
first_place [] w = refl
first_place (r ∷ rs) w = go (has r w) (first_place rs w)
  where
    go : (t : Bool) → first rs w ≡ meaning_in rs (place_in rs w) w
        → pick t (means r w) (first rs w) ≡ meaning_in (r ∷ rs) (pick t 0 (suc (place_in rs w))) w
    go true e = refl
    go false e = e

-- the places, from i on, of the pages with the upper byte u, each with its low byte as printed
abbrev pub upper_in : ℕ → ℕ → List Page → List (ℕ × String)
upper_in u i [] = []
upper_in u i (r ∷ rs) = pick (fits r.upper 8 u) ((i, r.lower) ∷ upper_in u (suc i) rs) (upper_in u (suc i) rs)

abbrev pub lower_in : ℕ → List (ℕ × String) → ℕ → ℕ
lower_in d [] low = d
lower_in d (e ∷ es) low = pick (low_fits e.1 low) e.0 (lower_in d es low)

-- by the upper byte first, and then by the lower
pub by_bytes : (rs : List Page) (i w : ℕ) → lower_in (i + length rs) (upper_in (w / 256) i rs) (w % 256) ≡ i + place_in rs w
by_bytes [] i w = refl
by_bytes (r ∷ rs) i w =
    let a : i + suc (length rs) ≡ suc i + length rs = omega arith in
    let b : i + suc (place_in rs w) ≡ suc i + place_in rs w = omega arith in
    go (fits r.upper 8 (w / 256)) (rw (a, b) (by_bytes rs (suc i) w))
  where
    low : (l : Bool) (x : ℕ) → x ≡ i + suc (place_in rs w) → pick l i x ≡ i + pick l 0 (suc (place_in rs w))
    low true x e = omega arith
    low false x e = e

    go : (f : Bool) → lower_in (i + suc (length rs)) (upper_in (w / 256) (suc i) rs) (w % 256) ≡ i + suc (place_in rs w)
        → lower_in (i + suc (length rs)) (pick f ((i, r.lower) ∷ upper_in (w / 256) (suc i) rs) (upper_in (w / 256) (suc i) rs)) (w % 256)
        ≡ i + pick (both f (low_fits r.lower (w % 256))) 0 (suc (place_in rs w))
    go true e = low (low_fits r.lower (w % 256)) _ e
    go false e = e

-- the pages with the upper byte u
unfoldable pub pages_of : ℕ → List (ℕ × String)
pages_of u = upper_in u 0 pages

-- what the page at a place makes of a word
unfoldable pub meaning_at : ℕ → ℕ → Decoded
meaning_at p w = meaning_in pages p w

pub page_means : (p w : ℕ) (d : Decoded) → d ≡ meaning_in pages p w → d ≡ meaning_at p w
unfolding meaning_at
page_means p w d e = e

pub decode_at_place : (w : ℕ) → decode_of w ≡ meaning_at (place_in pages w) w
unfolding decode_of meaning_at
decode_at_place w = first_place pages w

-- section 4.3 has 133 pages, and 75 of them are the base's
pub page_count : length pages ≡ 133
page_count = refl

pub base_count : length base_pages ≡ 75
base_count = refl
