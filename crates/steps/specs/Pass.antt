-- One pass of an instruction, decoded, with its second word: the words that it reads, what it makes of the machine, and its plan.
use Rattle.std.specs.Prelude.{cond, List, [], ◌∷◌, ℕ, length, get_or, Result, Ok, Err}
use Rattle.machine.specs.declared.Machine.{Machine}
use Rattle.answers.specs.Answers.{Answer}
use Rattle.answers.specs.Answers.{Done}
use Rattle.answers.specs.declared.Refusal.{Refusal}
use Rattle.instructions.specs.declared.Instruction.{Instruction}
use Rattle.pages.specs.declared.Traits.{Traits}
use Rattle.pages.specs.declared.Effect.{Effect}
use Rattle.pages.specs.Passes.{followed}
use Rattle.pages.specs.Addressing.{addressed, address_of}
use Rattle.pages.specs.MultiplierPages.{table_address}
use Rattle.pages.specs.declared.Words.{Words}
use Rattle.pages.specs.Rules.{rule_of}
use Rattle.board.specs.Given.{Given}
use Rattle.board.specs.Windows.{program_word}
use Rattle.steps.specs.Rows.{Row}
use Rattle.steps.specs.OperandFound.{none_outside, found_for, outside_by}
use Rattle.steps.specs.Refusals.{pass_rows}
use Rattle.steps.specs.Stores.{write_of}
use Rattle.steps.specs.declared.Write.{Write}
use Rattle.steps.specs.declared.Write.TheVariants.{Nothing}
use Rattle.steps.specs.declared.Pass.{Pass}
use Rattle.steps.specs.Plan.{Plan}

-- ---- what a pass reads and does

-- the words that a pass reads
unfoldable pub words_read : Traits → ℕ → Given → List ℕ → Machine → Words
words_read t second g «data» m = record {
  operand = (found_for t «data» m).word;
  second = second;
  table = cond t.table (program_word m.cnf (table_address m second) g.rom «data») 0;
  at = table_address m second;
  next = get_or g.input m.input_cursor 0;
}

-- The page's rule, with the machine before and after the operand's modification. t is what the page says of the instruction besides (`traits_of i`).
unfoldable pub effect_of : Traits → Instruction → ℕ → Given → List ℕ → Machine → Effect
effect_of t i second g «data» m =
    rule_of i m (addressed t.operand m) (words_read t second g «data» m)

-- the machine after a pass that is not refused
unfoldable pub passed_machine : Traits → Instruction → ℕ → Given → List ℕ → Machine → Machine
passed_machine t i second g «data» m =
    followed (effect_of t i second g «data» m).m (effect_of t i second g «data» m).jump t.words t.repeatable

-- and what it stores
unfoldable pub passed_write : Traits → Instruction → ℕ → Given → List ℕ → Machine → Write
passed_write t i second g «data» m =
    write_of (effect_of t i second g «data» m).store (found_for t «data» m).region m.cnf (address_of t.operand m) m.output_cursor

-- ---- the plan of a pass: by value, and nothing is changed yet

abbrev pub refused : Machine → Answer → Plan
refused m answer = record { m = m; answer = answer; write = Nothing; outside = none_outside }

-- a plan by a table of answers: the refusal by the first row that holds, and this plan where none does
unfoldable pub plan_by : List Row → Machine → Plan → Plan
plan_by [] m plan = plan
plan_by (r ∷ rows) m plan = cond r.given (refused m r.answer) (plan_by rows m plan)

-- the plan of what the code gives: a pass that is done, or a refusal
abbrev pub planned : Machine → Result Pass Refusal → Plan
planned m (Ok pass) = record { m = pass.m; answer = Done; write = pass.write; outside = pass.outside }
planned m (Err refusal) = refused m (Err refusal)

unfoldable pub performed : Traits → Instruction → ℕ → Given → List ℕ → Machine → Plan
performed t i second g «data» m = record {
  m = passed_machine t i second g «data» m;
  answer = Done;
  write = passed_write t i second g «data» m;
  outside = outside_by t.access (found_for t «data» m).region;
}

unfoldable pub pass_plan : Traits → Instruction → ℕ → Given → List ℕ → ℕ → Machine → Plan
pass_plan t i second g «data» output_length m = plan_by (pass_rows t (found_for t «data» m).region second (length g.input) output_length m) m (performed t i second g «data» m)
