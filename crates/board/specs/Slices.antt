-- Check 2 over the lent slices, the place of a part, and the part of a data page that a direct store is made into.
use Rattle.std.specs.Prelude.{Bool, cond, ◌&&◌, List, ◌++◌, ℕ, ◌+◌, ◌*◌, min, leb, eqb, length, take, drop, set}
use Rattle.std.proofs.Math.Seq.{slice}
use Rattle.std.specs.Borrow.{Bor}
use Rattle.machine.specs.declared.Machine.{Machine}

-- "program or data slice is not 4,096 words"
unfoldable pub memories_fit : List ℕ → List ℕ → Bool
memories_fit rom «data» = eqb (length rom) 4096 && eqb (length «data») 4096

-- "a port slice is over 1,024, a cursor is past its slice"; a cursor at the slice's end is not past it (ruling R14)
unfoldable pub port_fits : ℕ → ℕ → Bool
port_fits size cursor = leb size 1024 && leb cursor size

-- nothing is left of a port's slice: "input port dry" (document 02, request 2); "OUT with the output slice full"
unfoldable pub port_spent : ℕ → ℕ → Bool
port_spent size cursor = leb size cursor

-- "2" is given in a step or a run exactly where this test fails
unfoldable pub slices_fit : Machine → List ℕ → List ℕ → List ℕ → ℕ → Bool
slices_fit m rom «data» input output_length =
    memories_fit rom «data»
    && port_fits (length input) m.input_cursor
    && port_fits output_length m.output_cursor

-- Where a slice begins is a block of memory and a place in it (`ptr`); a 16-bit word takes two places.
-- The part of a lent slice from one word up to another begins so many words on in that slice; a part of no words where it ends.
unfoldable pub part_start : ℕ → ℕ → Bor (List ℕ) → ℕ × ℕ
part_start from to words = (words.ref_ptr.0, words.ref_ptr.1 + 2 * min from (min to (length words.now)))

-- "A data page is the 128 words from 128 times DP"
unfoldable pub data_page_part : ℕ → List ℕ → List ℕ
data_page_part dp «data» = slice (128 * dp) (128 * dp + 128) «data»

-- "a direct store is made into that part and into nothing outside it": what is before the part, the part with the word at the offset, what is after it.
-- Where the slice does not have the whole data page, or it has no such offset, nothing is stored.
unfoldable pub data_page_stored : List ℕ → ℕ → ℕ → ℕ → List ℕ
data_page_stored «data» dp offset word =
    cond (leb (128 * dp + 128) (length «data»))
    (take (128 * dp) «data» ++ set (data_page_part dp «data») offset word ++ drop (128 * dp + 128) «data»)
    «data»
