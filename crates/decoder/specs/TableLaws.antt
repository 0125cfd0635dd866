-- Decoding by the table of the kinds is decoding by the list of pages.
use Rattle.std.specs.Prelude.{◌≡◌, ℕ, ◌/◌, ◌<◌}
use Rattle.std.proofs.Common.{arith}
use Rattle.instructions.specs.Decode.{decode_of}
use Rattle.kinds.proofs.PlaceLaws.{decode_by_place}
use Rattle.kinds.specs.Table.{kind_table, kinds_right}
use Rattle.decoder.specs.ByTable.{decode_by}

pub decode_by_kinds : (w : ℕ) → w < 65536 → decode_by kind_table w ≡ decode_of w
unfolding decode_by
decode_by_kinds w h = rw (decode_by_place w h, kinds_right (w / 256) (omega arith))
