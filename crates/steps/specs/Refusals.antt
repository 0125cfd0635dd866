-- What refuses a pass of an instruction, decoded, with its second word.
use Rattle.std.specs.Prelude.{Bool, true, false, not, ◌&&◌, List, [], ◌∷◌, ◌++◌, ℕ, eqb}
use Rattle.machine.specs.declared.Machine.{Machine}
use Rattle.answers.specs.Answers.{Answer}
use Rattle.answers.specs.Answers.{ProgramAbsent, WrongPort, DataAbsent, OutputFull, InputDry}
use Rattle.pages.specs.declared.Access.{Access}
use Rattle.pages.specs.declared.Port.{Port}
use Rattle.pages.specs.declared.Traits.{Traits}
use Rattle.pages.specs.MultiplierPages.{table_address}
use Rattle.board.specs.declared.Region.{Region}
use Rattle.board.specs.Regions.{present, program_present}
use Rattle.board.specs.Slices.{port_spent}
use Rattle.steps.specs.Rows.{Row, row, first_given}

-- the addressed data word is read or written
unfoldable pub accesses : Access → Bool
accesses Access.None = false
accesses Access.Reads = true
accesses Access.Writes = true

-- "IN from a port other than 0, OUT to one other than 1"
unfoldable pub wrong_port : Port → Bool
wrong_port Port.None = false
wrong_port (Port.Input port) = not (eqb port 0)
wrong_port (Port.Output port) = not (eqb port 1)

-- an IN takes a word from its port, an OUT sends one to its port
unfoldable pub takes : Port → Bool
takes Port.None = false
takes (Port.Input port) = true
takes (Port.Output port) = false

unfoldable pub sends : Port → Bool
sends Port.None = false
sends (Port.Input port) = false
sends (Port.Output port) = true

-- "data address read or written is absent", for an operand in this region
unfoldable pub data_absent : Traits → Region → Bool
data_absent t region = accesses t.access && not (present region)

-- "input port dry" (document 02, request 2): an IN with no word left in the input slice
unfoldable pub input_dry : Traits → ℕ → Machine → Bool
input_dry t input_length m = takes t.port && port_spent input_length m.input_cursor

-- "program address absent", of a MAC or MACD table word
unfoldable pub table_absent : Traits → ℕ → Machine → Bool
table_absent t second m = t.table && not (program_present m.cnf (table_address m second))

-- "OUT with the output slice full"
unfoldable pub output_full : Traits → ℕ → Machine → Bool
output_full t output_length m = sends t.port && port_spent output_length m.output_cursor

-- what is asked of the port and of the operand, for an operand in this region: 9, 6
unfoldable pub access_rows : Traits → Region → List Row
access_rows t region =
    row "9" WrongPort (wrong_port t.port)
    ∷ row "6" DataAbsent (data_absent t region)
    ∷ []

-- what the rest asks: "11 .. after 6 and before the table word's 5", "5 for a MAC or MACD table word, 10"
unfoldable pub rest_rows : Traits → ℕ → ℕ → ℕ → Machine → List Row
rest_rows t second input_length output_length m =
    row "11" InputDry (input_dry t input_length m)
    ∷ row "5 for a MAC or MACD table word" ProgramAbsent (table_absent t second m)
    ∷ row "10" OutputFull (output_full t output_length m)
    ∷ []

-- the rows of a pass, the last of the order
unfoldable pub pass_rows : Traits → Region → ℕ → ℕ → ℕ → Machine → List Row
pass_rows t region second input_length output_length m = access_rows t region ++ rest_rows t second input_length output_length m

unfoldable pub pass_refusal : Traits → Region → ℕ → ℕ → ℕ → Machine → Answer
pass_refusal t region second input_length output_length m = first_given (pass_rows t region second input_length output_length m)
