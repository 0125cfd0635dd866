-- What refuses a pass, in the two parts that the code asks: the rows of its port and operand, and the rest.
use Rattle.std.specs.Prelude.{◌≡◌, Bool, true, false, cond, ◌&&◌, ◌||◌, List, ℕ, length}
use Rattle.std.proofs.Math.Path.{refl}
use Rattle.machine.specs.declared.Machine.{Machine}
use Rattle.answers.specs.Answers.{Done, ProgramAbsent, OutputFull, InputDry}
use Rattle.answers.specs.Numbers.{is_done}
use Rattle.pages.specs.declared.Port.{Port}
use Rattle.pages.specs.declared.Traits.{Traits}
use Rattle.board.specs.declared.Region.{Region}
use Rattle.steps.specs.OperandFound.{found_for}
use Rattle.steps.specs.Rows.{first_given}
use Rattle.steps.specs.Refusals.{takes, sends, input_dry, table_absent, output_full, access_rows, rest_rows, pass_rows, pass_refusal}
use Rattle.steps.proofs.RowLaws.{Refusals, all_refuse, first_append, plan_by_first}
use Rattle.steps.specs.Pass.{refused, performed, pass_plan}
use Rattle.instructions.specs.declared.Instruction.{Instruction}
use Rattle.board.specs.Given.{Given}
use Rattle.board.specs.Slices.{port_spent}

-- the rest, with one test for the ports: an instruction uses one of them, and where that is spent, an IN is dry and an OUT finds its slice full
pub rest_first : (t : Traits) (second input_length output_length : ℕ) (m : Machine) → first_given (rest_rows t second input_length output_length m)
    ≡ cond ((input_dry t input_length m || output_full t output_length m) && takes t.port) InputDry
    (cond (table_absent t second m) ProgramAbsent (cond (input_dry t input_length m || output_full t output_length m) OutputFull Done))
unfolding rest_rows first_given input_dry output_full takes sends
rest_first t second input_length output_length m = by t.port (port_spent input_length m.input_cursor) (port_spent output_length m.output_cursor) (table_absent t second m)
  where
    by : (port : Port) (dry full absent : Bool)
        → cond (takes port && dry) InputDry (cond absent ProgramAbsent (cond (sends port && full) OutputFull Done))
        ≡ cond ((takes port && dry || sends port && full) && takes port) InputDry
        (cond absent ProgramAbsent (cond (takes port && dry || sends port && full) OutputFull Done))
    by Port.None dry full absent = refl
    by (Port.Input port) true full absent = refl
    by (Port.Input port) false full absent = refl
    by (Port.Output port) dry true absent = refl
    by (Port.Output port) dry false absent = refl

module _ (t : Traits) (region : Region) (second input_length output_length : ℕ) (m : Machine) where
  access_refuses : Refusals (access_rows t region)
  unfolding access_rows
  access_refuses = all_refuse (access_rows t region) refl

  pass_refuses : Refusals (pass_rows t region second input_length output_length m)
  unfolding pass_rows access_rows rest_rows
  pass_refuses = all_refuse (pass_rows t region second input_length output_length m) refl

  pub pass_first : pass_refusal t region second input_length output_length m
      ≡ cond (is_done (first_given (access_rows t region))) (first_given (rest_rows t second input_length output_length m)) (first_given (access_rows t region))
  unfolding pass_refusal pass_rows
  pass_first = first_append (access_rows t region) (rest_rows t second input_length output_length m) access_refuses

-- a pass by the answer of the first row that refuses it
pub pass_plan_lem : (t : Traits) (i : Instruction) (second : ℕ) (g : Given) («data» : List ℕ) (output_length : ℕ) (m : Machine)
    → pass_plan t i second g «data» output_length m
    ≡ cond (is_done (pass_refusal t (found_for t «data» m).region second (length g.input) output_length m)) (performed t i second g «data» m)
    (refused m (pass_refusal t (found_for t «data» m).region second (length g.input) output_length m))
unfolding pass_plan pass_refusal
pass_plan_lem t i second g «data» output_length m =
    plan_by_first m (performed t i second g «data» m) (pass_rows t (found_for t «data» m).region second (length g.input) output_length m) (pass_refuses t (found_for t «data» m).region second (length g.input) output_length m)
