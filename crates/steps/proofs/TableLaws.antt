-- What a step answers and leaves, from its table of answers.
use Rattle.std.specs.Prelude.{◌≡◌, refl, true, false, List, ℕ, length}
use Rattle.std.proofs.Common.{sym, ◌∙◌, ap}
use Rattle.machine.specs.declared.Machine.{Machine}
use Rattle.answers.specs.Answers.{Done}
use Rattle.answers.specs.Numbers.{is_done}
use Rattle.instructions.specs.declared.Instruction.{Instruction}
use Rattle.instructions.specs.declared.Decoded.{Decoded}
use Rattle.instructions.specs.declared.Decoded.TheVariants.{Built, Unbuilt, Nothing}
use Rattle.pages.specs.Traits.{traits_of}
use Rattle.board.specs.Given.{Given}
use Rattle.steps.specs.Plan.{Plan}
use Rattle.steps.specs.Rows.{first_given}
use Rattle.steps.specs.Refusals.{pass_rows, access_rows, rest_rows}
use Rattle.steps.specs.Pass.{performed}
use Rattle.steps.specs.World.{World}
use Rattle.steps.specs.Table.{decoded_at, second_word, table_for, checks_of, check_rows, fetch_rows, encoding_rows, instruction_rows, repeat_rows}
use Rattle.steps.specs.Step.{page_plan, plan_of, after_store, step_of, rows_of}
use Rattle.steps.proofs.RowLaws.{Refusals, all_refuse, first_append, none_from, plan_answer, plan_done}

page_done : (d : Decoded) (g : Given) («data» : List ℕ) (m : Machine) → (page_plan d g «data» m).answer ≡ Done
unfolding page_plan performed
page_done (Built i) g «data» m = refl
page_done Unbuilt g «data» m = refl
page_done Nothing g «data» m = refl

-- the answer of a step is that of the table
pub step_answer : (g : Given) (w : World) → (step_of g w).answer ≡ first_given (rows_of g w)
unfolding step_of plan_of
step_answer g w = plan_answer w.m _ (rows_of g w) (page_done (decoded_at g w.«data» w.m) g w.«data» w.m)

table_refuses : (d : Decoded) (g : Given) («data» : List ℕ) (output_length : ℕ) (m : Machine) → Refusals (table_for d g «data» output_length m)
unfolding table_for check_rows fetch_rows encoding_rows instruction_rows repeat_rows pass_rows access_rows rest_rows
table_refuses (Built i) g «data» output_length m = all_refuse (table_for (Built i) g «data» output_length m) refl
table_refuses Unbuilt g «data» output_length m = all_refuse (table_for Unbuilt g «data» output_length m) refl
table_refuses Nothing g «data» output_length m = all_refuse (table_for Nothing g «data» output_length m) refl

pub rows_refuse : (g : Given) (w : World) → Refusals (rows_of g w)
rows_refuse g w = table_refuses (decoded_at g w.«data» w.m) g w.«data» (length w.output) w.m

-- where check 1 or 2 is not passed, the table gives what the checks give
pub checks_refuse : (g : Given) (w : World) → is_done (checks_of g w.«data» (length w.output) w.m) ≡ false
    → (step_of g w).answer ≡ checks_of g w.«data» (length w.output) w.m
unfolding checks_of check_rows table_for
checks_refuse g w h = step_answer g w ∙ first_append (check_rows g w.«data» (length w.output) w.m) _ (all_refuse (check_rows g w.«data» (length w.output) w.m) refl) ∙ rw h

-- a step that is done has the plan of its page's rule
pub step_plan : (g : Given) (w : World) (i : Instruction) → decoded_at g w.«data» w.m ≡ Built i → (step_of g w).answer ≡ Done
    → plan_of g w.«data» (length w.output) w.m ≡ performed (traits_of i) i (second_word i g w.«data» w.m) g w.«data» w.m
unfolding plan_of page_plan
step_plan g w i d e =
    let f : is_done (first_given (rows_of g w)) ≡ true = ap is_done (sym (step_answer g w) ∙ e) in
    plan_done w.m (page_plan (decoded_at g w.«data» w.m) g w.«data» w.m) (rows_of g w) (none_from (rows_of g w) (rows_refuse g w) f)
    ∙ ap (λ (x : Decoded). page_plan x g w.«data» w.m) d

-- and is what the page's rule makes of the world
pub step_world : (g : Given) (w : World) (i : Instruction) → decoded_at g w.«data» w.m ≡ Built i → (step_of g w).answer ≡ Done
    → (step_of g w).world ≡ after_store (performed (traits_of i) i (second_word i g w.«data» w.m) g w.«data» w.m) w
unfolding step_of
step_world g w i d e = ap (λ (p : Plan). after_store p w) (step_plan g w i d e)
