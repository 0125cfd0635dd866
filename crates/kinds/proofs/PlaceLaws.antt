-- The place of a word's page by kinds, and what the word means: over the agreement in Kinds.antt of specs/.
use Rattle.std.specs.Prelude.{◌≡◌, ℕ, ◌/◌, ◌%◌, ◌<◌}
use Rattle.std.proofs.Common.{ap, sym, ◌∙◌, zero-add, arith}
use Rattle.instructions.specs.Pages.{pages}
use Rattle.instructions.specs.Decode.{decode_of}
use Rattle.instructions.specs.Places.{place_in, meaning_at, upper_in, by_bytes, pages_of, decode_at_place}
use Rattle.kinds.specs.Sieve.{upper_at}
use Rattle.kinds.specs.Kinds.{kind_of, place_of_kind, agree_at, agreed, agree_lower}

-- the place of a word's page, from the kind of its upper byte and its low byte
pub place_of_kind_lem : (w : ℕ) → w < 65536 → place_in pages w ≡ place_of_kind (kind_of (w / 256)) (w % 256)
unfolding kind_of agree_at pages_of
place_of_kind_lem w h =
    sym (by_bytes pages 0 w ∙ zero-add (place_in pages w))
    ∙ agree_lower (upper_in (w / 256) 0 pages) (kind_of (w / 256)) (w % 256) (omega arith)
    (upper_at agree_at agreed (w / 256) (omega arith))

pub decode_by_place : (w : ℕ) → w < 65536 → decode_of w ≡ meaning_at (place_of_kind (kind_of (w / 256)) (w % 256)) w
decode_by_place w h = decode_at_place w ∙ ap (λ (p : ℕ). meaning_at p w) (place_of_kind_lem w h)
