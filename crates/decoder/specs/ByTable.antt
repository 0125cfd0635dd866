-- Decoding by a table of upper bytes that is given.
use Rattle.std.specs.Prelude.{List, ℕ, ◌/◌, ◌%◌, get_or}
use Rattle.instructions.specs.declared.Decoded.{Decoded}
use Rattle.instructions.specs.Places.{meaning_at}
use Rattle.kinds.specs.Kinds.{place_of_kind}

-- what the page is whose kind a table has at the word's upper byte; kind 0 stands past the table's end
unfoldable pub decode_by : List ℕ → ℕ → Decoded
decode_by table w = meaning_at (place_of_kind (get_or table (w / 256) 0) (w % 256)) w
