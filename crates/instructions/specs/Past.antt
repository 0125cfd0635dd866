-- The places past the base's: which of their pages are built, and that none stands past the last.
use Rattle.std.specs.Prelude.{◌≡◌, refl, Bool, true, List, [], ◌∷◌, ℕ, zero, suc, ◌<◌, ◌≤◌, T, length}
use Rattle.std.proofs.Common.{le_of_suc-le-suc, not-suc-le-zero, arith}
use Rattle.instructions.specs.Every.{all, all_at, between_is}
use Rattle.instructions.specs.Encoding.{Page, pick, both, between, find, means}
use Rattle.instructions.specs.Pages.{other_pages, pages}
use Rattle.instructions.specs.Decode.{is_unbuilt}
use Rattle.instructions.specs.Places.{meaning_in, meaning_at}
use Rattle.instructions.specs.declared.Decoded.{Decoded}
use Rattle.instructions.specs.declared.Decoded.TheVariants.{Built, Unbuilt, Nothing}

-- a place and what its page makes of a word, before others, where the page is built
abbrev if_built : ℕ → Decoded → List (ℕ × Decoded) → List (ℕ × Decoded)
if_built i (Built x) others = (i, Built x) ∷ others
if_built i Unbuilt others = others
if_built i Nothing others = others

-- the pages of a list that are built, by their places, from i on
abbrev built_from : ℕ → List Page → ℕ → List (ℕ × Decoded)
built_from i [] w = []
built_from i (r ∷ rs) w = if_built i (means r w) (built_from (suc i) rs w)

-- the pages not in the base that are built
unfoldable pub later_built : ℕ → List (ℕ × Decoded)
later_built w = built_from 75 other_pages w

unbuilt_is : (d : Decoded) → T (is_unbuilt d) → d ≡ Unbuilt
unbuilt_is (Built i) t = absurd t
unbuilt_is Unbuilt t = refl
unbuilt_is Nothing t = absurd t

-- Test: a place that passes f has a page that is not built.
abbrev unbuilt_where : (ℕ → Bool) → ℕ → ℕ → Bool
unbuilt_where f w p = pick (f p) (is_unbuilt (meaning_at p w)) true

unbuilt_where_lem : (f : ℕ → Bool) (p w : ℕ) → T (all (unbuilt_where f w) 8 0) → p < 133 → f p ≡ true → meaning_at p w ≡ Unbuilt
unbuilt_where_lem f p w t h passed =
    unbuilt_is (meaning_at p w) (rw passed at (all_at (unbuilt_where f w) 8 0 p t (omega arith) (omega arith)))

abbrev none_later : ℕ → ℕ → Bool
none_later w p = both (between 75 133 p) (is_unbuilt (find Unbuilt (later_built w) p))

later_tested : (w : ℕ) → T (all (unbuilt_where (none_later w) w) 8 0)
unfolding meaning_at later_built
later_tested w = tt

-- A page that is not in the base, and is none of those that are built, is not built.
pub later_unbuilt : (p w : ℕ) → 75 ≤ p → p < 133 → find Unbuilt (later_built w) p ≡ Unbuilt → meaning_at p w ≡ Unbuilt
later_unbuilt p w lo hi none =
    unbuilt_where_lem (none_later w) p w (later_tested w) hi (rw (between_is 75 133 p lo hi, none))

shared_tested : (w : ℕ) → T (all (unbuilt_where (between 130 133) w) 8 0)
unfolding meaning_at
shared_tested w = tt

-- ZAC, NOP and LARP are not built: their words are the base's.
pub shared_unbuilt : (p w : ℕ) → 130 ≤ p → p < 133 → meaning_at p w ≡ Unbuilt
shared_unbuilt p w lo hi = unbuilt_where_lem (between 130 133) p w (shared_tested w) hi (between_is 130 133 p lo hi)

past_end : (rs : List Page) (p w : ℕ) → length rs ≤ p → meaning_in rs p w ≡ Nothing
past_end [] p w h = refl
past_end (r ∷ rs) zero w h = absurd (not-suc-le-zero h)
past_end (r ∷ rs) (suc p) w h = past_end rs p w (le_of_suc-le-suc h)

pub past_pages : (p w : ℕ) → 133 ≤ p → meaning_at p w ≡ Nothing
unfolding meaning_at
past_pages p w h = past_end pages p w h
