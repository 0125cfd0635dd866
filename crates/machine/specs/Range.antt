-- Check 1: the range that document 01 states for each cell, as a test.
use Rattle.std.specs.Prelude.{Bool, true, false, ◌&&◌, List, [], ◌∷◌, ℕ, leb, eqb, length}
use Rattle.machine.specs.declared.Machine.{Machine}
use Rattle.machine.specs.Table.{Cell, cells, rows_held}

-- no word is above the largest number
abbrev pub none_above : ℕ → List ℕ → Bool
none_above largest [] = true
none_above largest (x ∷ xs) = none_above largest xs && leb x largest

-- a row of words has as many as its cell, and none above its cell's largest number
abbrev pub row_in_range : Cell → List ℕ → Bool
row_in_range c row = eqb (length row) c.count && none_above c.largest row

abbrev pub rows_in_range : List Cell → List (List ℕ) → Bool
rows_in_range [] rows = true
rows_in_range (c ∷ cs) [] = false
rows_in_range (c ∷ cs) (row ∷ rows) = row_in_range c row && rows_in_range cs rows

-- "1: a cell is outside its stated range" is given exactly where this test fails.
unfoldable pub in_range : Machine → Bool
in_range m = rows_in_range cells (rows_held m)
