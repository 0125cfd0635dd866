-- 8's row changes no answer, no step and no run: over RetiredLaws.antt.
use Rattle.std.specs.Prelude.{◌≡◌, ℕ, zero, suc}
use Rattle.std.proofs.Math.Path.{refl, ap}
use Rattle.std.proofs.Common.{sym, ◌∙◌}
use Rattle.answers.specs.Answers.{Answer}
use Rattle.answers.specs.Answers.{Done}
use Rattle.board.specs.Given.{Given}
use Rattle.steps.specs.Plan.{Plan}
use Rattle.steps.specs.Rows.{first_given}
use Rattle.steps.specs.Pass.{refused}
use Rattle.steps.specs.World.{World}
use Rattle.steps.specs.Table.{decoded_at}
use Rattle.steps.specs.Step.{page_plan, plan_of, after_store, step_of, run_of, rows_of}
use Rattle.steps.proofs.RowLaws.{plan_answer}
use Rattle.ranges.specs.Retired.{former_rows, former_plan, former_step, former_run, EightRetired}
use Rattle.ranges.proofs.RetiredLaws.{same_plan}

module _ (a : Answer) (g : Given) (w : World) where
  same_answer : first_given (former_rows a g w) ≡ first_given (rows_of g w)
  same_answer =
      let done = refused w.m Done in
      sym (plan_answer w.m done (former_rows a g w) refl) ∙ (ap (λ (p : Plan). p.answer) (same_plan a g w done) ∙ plan_answer w.m done (rows_of g w) refl)

  same_step : former_step a g w ≡ step_of g w
  unfolding former_step former_plan step_of plan_of
  same_step = ap (λ (p : Plan). record { world = after_store p w; answer = p.answer }) (same_plan a g w (page_plan (decoded_at g w.«data» w.m) g w.«data» w.m))

same_run : (a : Answer) (g : Given) (n : ℕ) (w : World) → former_run a g n w ≡ run_of g n w
unfolding former_run run_of
same_run a g zero w = refl
same_run a g (suc n) w = rw (same_step a g w, same_run a g n (step_of g w).world)

pub eight_retired : (a : Answer) (g : Given) (w : World) → EightRetired a g w
eight_retired a g w = record { same_answer = same_answer a g w; same_step = same_step a g w; same_run = λ budget. same_run a g budget w }
