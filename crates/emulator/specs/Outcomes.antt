-- What `step` and `run` give, as outcomes.
use Rattle.std.specs.Prelude.{List, ℕ, Result, Ok, Err}
use Rattle.machine.specs.declared.Machine.{Machine}
use Rattle.answers.specs.declared.Refusal.{Refusal}
use Rattle.answers.specs.Answers.{Done}
use Rattle.steps.specs.World.{Outcome, RunOutcome}
use Rattle.steps.specs.OperandFound.{none_outside}
use Rattle.steps.specs.declared.Outside.{Outside}
use Rattle.emulator.specs.declared.Stepped.{Stepped}
use Rattle.emulator.specs.declared.Ran.{Ran}

-- What the functions give: their result, and the two slices as they are at exit. A refused step leaves the machine that it got.
abbrev pub stepped : Machine → Result Stepped Refusal → List ℕ → List ℕ → Outcome
stepped m (Ok s) «data» output = record { world = record { m = s.m; «data» = «data»; output = output }; answer = Done }
stepped m (Err refusal) «data» output = record { world = record { m = m; «data» = «data»; output = output }; answer = Err refusal }

-- and counts nothing
abbrev pub counted : Result Stepped Refusal → Outside
counted (Ok s) = s.outside
counted (Err refusal) = none_outside

abbrev pub ran : Ran → List ℕ → List ℕ → RunOutcome
ran r «data» output = record { world = record { m = r.m; «data» = «data»; output = output }; steps = r.steps; answer = r.answer }
