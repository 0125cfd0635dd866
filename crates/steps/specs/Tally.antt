-- What is kept beside a run: a tally over the plans of the steps that it does. The run itself knows nothing of it.
use Rattle.std.specs.Prelude.{cond, List, [], ◌∷◌, ℕ, zero, suc, ◌+◌, length}
use Rattle.answers.specs.Numbers.{is_done}
use Rattle.board.specs.Given.{Given}
use Rattle.steps.specs.declared.Outside.{Outside}
use Rattle.steps.specs.Plan.{Plan}
use Rattle.steps.specs.OperandFound.{none_outside}
use Rattle.steps.specs.World.{World}
use Rattle.steps.specs.Step.{plan_of, step_of}

-- the plan of the step that is due in a world
abbrev pub plan_in : Given → World → Plan
plan_in g w = plan_of g w.«data» (length w.output) w.m

-- the history of a run: the plans of the steps that it does, the first one first. A refused step has no part in it.
unfoldable pub plans_of : Given → ℕ → World → List Plan
plans_of g zero w = []
plans_of g (suc n) w = cond (is_done (step_of g w).answer) (plan_in g w ∷ plans_of g n (step_of g w).world) []

-- what is kept after a history, from what was kept before it
unfoldable pub tallied : {S : Type 0} → (Plan → S → S) → List Plan → S → S
tallied keep [] s = s
tallied keep (p ∷ plans) s = tallied keep plans (keep p s)

-- ---- "a run [reports] the totals over its steps" (document 02, request 7)

abbrev pub both_outside : Outside → Outside → Outside
both_outside a b = record { reads = a.reads + b.reads; writes = a.writes + b.writes }

unfoldable pub add_outside : Plan → Outside → Outside
add_outside p o = both_outside o p.outside

unfoldable pub outside_of : Given → ℕ → World → Outside
outside_of g n w = tallied add_outside (plans_of g n w) none_outside
