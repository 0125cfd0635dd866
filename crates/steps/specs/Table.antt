-- The table of answers of a step: one row for each line of the order in document 01, as document 02 changes it. The refusal is the first row that holds.
use Rattle.std.specs.Prelude.{Bool, not, cond, ◌&&◌, List, [], ◌∷◌, ◌++◌, ℕ, length, ltb, eqb}
use Rattle.alu.specs.Registers.{wrapped_sum}
use Rattle.machine.specs.declared.Machine.{Machine}
use Rattle.machine.specs.Range.{in_range}
use Rattle.answers.specs.Answers.{Answer}
use Rattle.answers.specs.Answers.{CellOutOfRange, SlicesUnfit, NoEncoding, NotBuilt, ProgramAbsent, NotRepeatable}
use Rattle.instructions.specs.declared.Instruction.{Instruction}
use Rattle.instructions.specs.declared.Decoded.{Decoded}
use Rattle.instructions.specs.declared.Decoded.TheVariants.{Built, Unbuilt, Nothing}
use Rattle.instructions.specs.Decode.{decode_of, is_unbuilt, is_nothing}
use Rattle.pages.specs.Traits.{traits_of}
use Rattle.board.specs.Given.{Given}
use Rattle.board.specs.Regions.{program_present}
use Rattle.board.specs.Slices.{slices_fit}
use Rattle.board.specs.Windows.{program_word}
use Rattle.steps.specs.Rows.{Row, row, first_given}
use Rattle.steps.specs.OperandFound.{found_for}
use Rattle.steps.specs.Refusals.{pass_rows}

-- what the word at PC is
unfoldable pub decoded_at : Given → List ℕ → Machine → Decoded
decoded_at g «data» m = decode_of (program_word m.cnf m.pc g.rom «data»)

-- the second word's address, "PC + 1 modulo 65,536, wherever that lies" (ruling R10), and the second word where the instruction has two
unfoldable pub second_address : Machine → ℕ
second_address m = wrapped_sum m.pc 1

unfoldable pub second_word : Instruction → Given → List ℕ → Machine → ℕ
second_word i g «data» m = cond (eqb (traits_of i).words 2) (program_word m.cnf (second_address m) g.rom «data») 0

-- "RPTC above 0 and its page says not repeatable"
unfoldable pub not_repeatable : Machine → Instruction → Bool
not_repeatable m i = ltb 0 m.rptc && not (traits_of i).repeatable

-- "program address absent", of the second word, whether or not the step uses the word (ruling R11)
unfoldable pub second_absent : Machine → Instruction → Bool
second_absent m i = eqb (traits_of i).words 2 && not (program_present m.cnf (second_address m))

-- ---- the rows, in the words of document 01's order

-- checks 1 and 2
unfoldable pub check_rows : Given → List ℕ → ℕ → Machine → List Row
check_rows g «data» output_length m =
    row "1" CellOutOfRange (not (in_range m))
    ∷ row "2" SlicesUnfit (not (slices_fit m g.rom «data» g.input output_length))
    ∷ []

unfoldable pub fetch_rows : Machine → List Row
fetch_rows m = row "5 for the first word" ProgramAbsent (not (program_present m.cnf m.pc)) ∷ []

unfoldable pub encoding_rows : Decoded → List Row
encoding_rows d = row "3" NoEncoding (is_nothing d) ∷ row "4" NotBuilt (is_unbuilt d) ∷ []

-- of an instruction before its pass
unfoldable pub repeat_rows : Instruction → Machine → List Row
repeat_rows i m = row "7" NotRepeatable (not_repeatable m i) ∷ row "5 for the second word" ProgramAbsent (second_absent m i) ∷ []

-- of an instruction, where the word is one
unfoldable pub instruction_rows : Decoded → Given → List ℕ → ℕ → Machine → List Row
instruction_rows (Built i) g «data» output_length m = repeat_rows i m ++ pass_rows (traits_of i) (found_for (traits_of i) «data» m).region (second_word i g «data» m) (length g.input) output_length m
instruction_rows Unbuilt g «data» output_length m = []
instruction_rows Nothing g «data» output_length m = []

-- The order in a step, without 8, which is retired (request 10), and with 11 (request 2): 1, 2, 5 for the first word, 3, 4, 7, 5 for the second word, 9, 6,
-- 11, 5 for a MAC or MACD table word, 10.
unfoldable pub table_for : Decoded → Given → List ℕ → ℕ → Machine → List Row
table_for d g «data» output_length m = check_rows g «data» output_length m ++ (fetch_rows m ++ (encoding_rows d ++ instruction_rows d g «data» output_length m))

-- checks 1 and 2 alone
unfoldable pub checks_of : Given → List ℕ → ℕ → Machine → Answer
checks_of g «data» output_length m = first_given (check_rows g «data» output_length m)
