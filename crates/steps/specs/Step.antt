-- A step, and a run. A step is an answer and a world: refused, it gives back the world that it got; otherwise the world is what the page's rule makes of it.
use Rattle.std.specs.Prelude.{cond, List, ℕ, zero, suc, length}
use Rattle.machine.specs.declared.Machine.{Machine}
use Rattle.answers.specs.Answers.{Done}
use Rattle.answers.specs.Numbers.{is_done}
use Rattle.instructions.specs.declared.Decoded.{Decoded}
use Rattle.instructions.specs.declared.Decoded.TheVariants.{Built, Unbuilt, Nothing}
use Rattle.pages.specs.Traits.{traits_of}
use Rattle.board.specs.Given.{Given}
use Rattle.steps.specs.Plan.{Plan}
use Rattle.steps.specs.Stores.{data_after, output_after}
use Rattle.steps.specs.Pass.{performed, refused, plan_by}
use Rattle.steps.specs.World.{World, Outcome, RunOutcome}
use Rattle.steps.specs.Table.{decoded_at, second_word, table_for, checks_of}
use Rattle.steps.specs.Rows.{Row}

-- What the step does where nothing refuses it: the rule of the word's page. (A word that is no instruction, or none that is built, is always refused.)
unfoldable pub page_plan : Decoded → Given → List ℕ → Machine → Plan
page_plan (Built i) g «data» m = performed (traits_of i) i (second_word i g «data» m) g «data» m
page_plan Unbuilt g «data» m = refused m Done
page_plan Nothing g «data» m = refused m Done

-- Cells, answer and store of a step, and what it counts, by value: the refusal by the first row of the table that holds, and else what the page's rule makes of the machine.
unfoldable pub plan_of : Given → List ℕ → ℕ → Machine → Plan
plan_of g «data» output_length m =
    plan_by (table_for (decoded_at g «data» m) g «data» output_length m) m
    (page_plan (decoded_at g «data» m) g «data» m)

-- the world after the one store of a plan
unfoldable pub after_store : Plan → World → World
after_store plan w = record { m = plan.m; «data» = data_after plan.write w.«data»; output = output_after plan.write w.output }

unfoldable pub step_of : Given → World → Outcome
step_of g w = record {
  world = after_store (plan_of g w.«data» (length w.output) w.m) w;
  answer = (plan_of g w.«data» (length w.output) w.m).answer;
}

-- the table of answers of a step
abbrev pub rows_of : Given → World → List Row
rows_of g w = table_for (decoded_at g w.«data» w.m) g w.«data» (length w.output) w.m

-- the world after k steps, refused or not
unfoldable pub world_after : Given → ℕ → World → World
world_after g zero w = w
world_after g (suc k) w = world_after g k (step_of g w).world

-- one step more before a run
abbrev pub one_more : RunOutcome → RunOutcome
one_more r = record { world = r.world; steps = suc r.steps; answer = r.answer }

abbrev pub stopped : Outcome → RunOutcome
stopped o = record { world = o.world; steps = 0; answer = o.answer }

-- "A run takes a budget, stops at the first refused step, and reports the steps done (the refused one not counted) and the last answer. Budget 0 makes checks 1 and 2 only."
unfoldable pub run_of : Given → ℕ → World → RunOutcome
run_of g zero w = record { world = w; steps = 0; answer = checks_of g w.«data» (length w.output) w.m }
run_of g (suc n) w =
    cond (is_done (step_of g w).answer)
    (one_more (run_of g n (step_of g w).world))
    (stopped (step_of g w))
