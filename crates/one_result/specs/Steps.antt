-- One possible result of each exported function: a pass, a step and a run.
use Rattle.stores.proofs.write_of.Reads as WriteOf
use Rattle.finding.proofs.find_word.Reads as FindWord
use Rattle.finding.proofs.find_operand.Reads as FindOperand
use Rattle.finding.proofs.outside_by.Reads as OutsideBy
use Rattle.refusals.proofs.is_program_absent.Reads as IsProgramAbsent
use Rattle.refusals.proofs.pass_refusal.Reads as PassRefusal
use Rattle.plans.proofs.program_word.Reads as ProgramWord
use Rattle.plans.proofs.plan_pass.Reads as PlanPass
use Rattle.fetching.proofs.plan_fetched.Reads as PlanFetched
use Rattle.summaries.proofs.summary_fits.Reads as SummaryFits
use Rattle.summaries.proofs.reset_summary.Reads as ResetSummary
use Rattle.summaries.proofs.count_store.Reads as CountStore
use Rattle.emulator.proofs.step.Reads as Step
use Rattle.emulator.proofs.run.Reads as Run
use Rattle.emulator.proofs.run_with.Reads as RunWith
use Rattle.label.proofs.most_frames.Reads as MostFrames
use Rattle.std.specs.Prelude.{◌≡◌, refl, List, ℕ, Result, Ok, Err}
use Rattle.std.proofs.Common.{sym, ap, ◌∙◌}
use Rattle.machine.specs.declared.Machine.{Machine}
use Rattle.answers.specs.declared.Refusal.{Refusal}
use Rattle.answers.specs.Answers.{Answer}
use Rattle.steps.specs.declared.Pass.{Pass}
use Rattle.steps.specs.declared.Outside.{Outside}
use Rattle.steps.specs.Plan.{Plan}
use Rattle.steps.specs.Pass.{planned}
use Rattle.steps.specs.World.{Outcome}
use Rattle.emulator.specs.declared.Stepped.{Stepped}
use Rattle.emulator.specs.Outcomes.{stepped, counted, ran}
use Rattle.stacking_cases.specs.LabelLaws.{one_figure}
use Rattle.one_result.specs.One.{OneOutcome, OneResult, pair, same, same_pair}

pub write_of : OneResult WriteOf.Post
write_of κs a r r' e e' p q = same p q

pub find_word : OneResult FindWord.Post
find_word κs a r r' e e' p q = same p q

pub find_operand : OneResult FindOperand.Post
find_operand κs a r r' e e' p q = same p q

pub outside_by : OneResult OutsideBy.Post
outside_by κs a r r' e e' p q = same p q

pub is_program_absent : OneResult IsProgramAbsent.Post
is_program_absent κs a r r' e e' p q = same p q

pub pass_refusal : OneResult PassRefusal.Post
pass_refusal κs a r r' e e' p q = same p q

pub program_word : OneResult ProgramWord.Post
program_word κs a r r' e e' p q = same p q

-- the pass or the refusal that a plan comes from
pass_in : Plan → Result Pass Refusal
pass_in plan = by plan.answer
  where
    by : Answer → Result Pass Refusal
    by (Ok _) = Ok (record { m = plan.m; write = plan.write; outside = plan.outside })
    by (Err refusal) = Err refusal

pass_again : (m : Machine) (r : Result Pass Refusal) → pass_in (planned m r) ≡ r
unfolding pass_in
pass_again m (Ok pass) = refl
pass_again m (Err refusal) = refl

one_pass : (m : Machine) {plan : Plan} {r r' : Result Pass Refusal} → planned m r ≡ plan → planned m r' ≡ plan → r ≡ r'
one_pass m {plan} {r} {r'} p q = sym (pass_again m r) ∙ (ap pass_in (same p q) ∙ pass_again m r')

pub plan_pass : OneResult PlanPass.Post
plan_pass κs a r r' e e' p q = one_pass _ p q

pub plan_fetched : OneResult PlanFetched.Post
plan_fetched κs a r r' e e' p q = one_pass _ p q

pub summary_fits : OneResult SummaryFits.Post
summary_fits κs a r r' e e' p q = same p q

pub reset_summary : OneOutcome ResetSummary.Post (λ r e. pair r e.0.now)
reset_summary κs a r r' e e' p q = same_pair (same p.0 q.0) (same p.1 q.1)

pub count_store : OneOutcome CountStore.Post (λ r e. e.0.now)
count_store κs a r r' e e' p q = same p q

-- the result of a step by its outcome and what it counts
step_in : Outcome → Outside → Result Stepped Refusal
step_in outcome outside = by outcome.answer
  where
    by : Answer → Result Stepped Refusal
    by (Ok _) = Ok (record { m = outcome.world.m; outside = outside })
    by (Err refusal) = Err refusal

step_again : (m : Machine) (r : Result Stepped Refusal) («data» output : List ℕ) → step_in (stepped m r «data» output) (counted r) ≡ r
unfolding step_in
step_again m (Ok s) «data» output = refl
step_again m (Err refusal) «data» output = refl

one_step : (m : Machine) (d o d' o' : List ℕ) {r r' : Result Stepped Refusal} {outcome : Outcome} {outside : Outside}
    → stepped m r d o ≡ outcome → stepped m r' d' o' ≡ outcome → counted r ≡ outside → counted r' ≡ outside → r ≡ r'
one_step m d o d' o' {r} {r'} {outcome} {outside} p q c k =
    sym (step_again m r d o) ∙ (ap (λ (x : Outcome). step_in x (counted r)) (same p q) ∙ (ap (λ (x : Outside). step_in (stepped m r' d' o') x) (same c k) ∙ step_again m r' d' o'))

-- the data that a step leaves, and the output
data_in : (m : Machine) (r : Result Stepped Refusal) (d o : List ℕ) → (stepped m r d o).world.«data» ≡ d
data_in m (Ok s) d o = refl
data_in m (Err refusal) d o = refl

output_in : (m : Machine) (r : Result Stepped Refusal) (d o : List ℕ) → (stepped m r d o).world.output ≡ o
output_in m (Ok s) d o = refl
output_in m (Err refusal) d o = refl

pub step : OneOutcome Step.Post (λ r e. pair r (pair e.1.1.0.now e.1.1.1.1.0.now))
step κs a r r' e e' p q =
    same_pair (one_step _ _ _ _ _ p.0 q.0 p.1 q.1)
    (same_pair
    (sym (data_in _ r _ _) ∙ (ap (λ (x : Outcome). x.world.«data») (same p.0 q.0) ∙ data_in _ r' _ _))
    (sym (output_in _ r _ _) ∙ (ap (λ (x : Outcome). x.world.output) (same p.0 q.0) ∙ output_in _ r' _ _)))

pub run : OneOutcome Run.Post (λ r e. pair (ran r e.1.1.0.now e.1.1.1.1.0.now) r.outside)
run κs a r r' e e' p q = same_pair (same p.0 q.0) (same p.1 q.1)

pub run_with : OneOutcome RunWith.Post (λ r e. pair (ran r e.1.1.0.now e.1.1.1.1.0.now) (pair r.outside e.1.1.1.1.1.0.now))
run_with κs a r r' e e' p q = same_pair (same p.0 q.0) (same_pair (same p.1.0 q.1.0) (same p.1.1 q.1.1))

-- its contract is a property; `one_figure` is what it leaves
pub most_frames : OneResult MostFrames.Post
most_frames κs a r r' e e' p q = one_figure r r' p q
