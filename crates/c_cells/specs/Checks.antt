-- The checks of a slice of cells: its length (2), then the range of each cell (1).
use Rattle.std.specs.Prelude.{Result, Bool, true, cond, ◌&&◌, List, [], ◌∷◌, ◌++◌, ℕ, zero, suc, leb, eqb, length, get_or, replicate}
use Rattle.machine.specs.declared.Machine.{Machine}
use Rattle.machine.specs.Table.{Cell, cells, cell_count}
use Rattle.answers.specs.declared.Refusal.{Refusal}
use Rattle.answers.specs.Answers.{Answer, where_done}
use Rattle.answers.specs.Answers.{Done, CellOutOfRange, SlicesUnfit}
use Rattle.c_cells.specs.Cells.{cells_of, machine_of}

-- the largest number that each may hold, in the same order
abbrev pub limits_of : List Cell → List ℕ
limits_of [] = []
limits_of (c ∷ cs) = replicate c.count c.largest ++ limits_of cs

unfoldable pub limits : List ℕ
limits = limits_of cells

-- each of the first n numbers is at most its limit
unfoldable pub within_limits : ℕ → List ℕ → Bool
within_limits zero numbers = true
within_limits (suc n) numbers = within_limits n numbers && leb (get_or numbers n 0) (get_or limits n 0)

unfoldable pub length_answer : List ℕ → Answer
length_answer numbers = cond (eqb (length numbers) cell_count) Done SlicesUnfit

-- Where the length is wrong there are no cells to check: 2 comes first.
unfoldable pub cells_answer : List ℕ → Answer
cells_answer numbers =
    cond (eqb (length numbers) cell_count)
    (cond (within_limits cell_count numbers) Done
    CellOutOfRange)
    SlicesUnfit

-- the machine of cells that pass the checks
unfoldable pub checked_machine : List ℕ → Result Machine Refusal
checked_machine numbers = where_done (cells_answer numbers) (machine_of numbers)

-- the slice after a machine's cells were written to it
unfoldable pub cells_after : List ℕ → Machine → List ℕ
cells_after numbers m = cond (eqb (length numbers) cell_count) (cells_of m) numbers
