-- The machine's cells as numbers: the rows of the table of cells one after another, `cell_count` of them.
use Rattle.std.specs.Prelude.{cond, List, [], ◌∷◌, ◌++◌, ℕ, zero, suc, ◌%◌, ◌^◌, eqb, length, get_or}
use Prim.Native.String.{String}
use Rattle.machine.specs.declared.Machine.{Machine}
use Rattle.machine.specs.Table.{cell_count, count_of, bits_of, cell_place_of, only, rows_held}
use Rattle.machine.specs.Cells.{built}
use Rattle.machine.specs.Reset.{reset_machine}

abbrev pub joined : List (List ℕ) → List ℕ
joined [] = []
joined (row ∷ rows) = row ++ joined rows

-- the numbers of a machine
unfoldable pub cells_of : Machine → List ℕ
cells_of m = joined (rows_held m)

-- n numbers from a place on, each as a field of so many bits holds it; a number that passes check 1 is held as it is
abbrev pub fields_at : ℕ → List ℕ → ℕ → ℕ → List ℕ
fields_at bits numbers place zero = []
fields_at bits numbers place (suc n) = get_or numbers place 0 % 2 ^ bits ∷ fields_at bits numbers (suc place) n

-- the words that numbers give to the cell of a name, from its place on
abbrev pub words_from : List ℕ → String → List ℕ
words_from numbers name = fields_at (bits_of name) numbers (cell_place_of name) (count_of name)

-- the machine of `cell_count` numbers
unfoldable pub machine_from : List ℕ → Machine
machine_from numbers = built (λ name field. only (words_from numbers name)) (λ name field. words_from numbers name)

-- the machine of a slice of cells; one of another length is refused before any machine is asked for, and reset stands in
unfoldable pub machine_of : List ℕ → Machine
machine_of numbers = cond (eqb (length numbers) cell_count) (machine_from numbers) reset_machine
