-- Not routine: once checks 1 and 2 are passed, the plan made from the fetch on is the step's whole plan, and its store lies in the data slice.
use mathlib.Core.Path.{◌∙◌, ap}
use Rattle.steps.specs.Plan.{Plan}
use Rattle.steps.specs.Step.{step_of, after_store}
use Rattle.steps.specs.Stores.{data_after, output_after}
use Rattle.steps.specs.Summary.{add_store, store_counted}
use Rattle.emulator.specs.RunLaws.{words_fit, table_plan, table_fits, passed_on}
use Rattle.emulator.proofs.checked_step.Goals as goal

pub commit-requires : goal.commit-requires
commit-requires c = rw (ap (λ (p : Plan). p.write) (rw c.new.ensures at c.in_ok-pass.ensures))
    (table_fits _ _ _ _ _ c.requires.0
    (words_fit c.args.rom.now (λ i. (c.shared_slice_known-2-1.given i).fits))
    (words_fit c.args.«data».now (λ i. (c.slice_known-1.given i).fits))
    c.requires.1)

pub returns-in_err-pass : goal.returns-in_err-pass
unfolding step_of after_store add_store store_counted data_after output_after
returns-in_err-pass c =
    let refusal = passed_on c.from_residual.result c.in_err-pass.field-0.0 c.from_residual.ensures in
    let plan = (rw c.new.ensures at c.in_err-pass.ensures)
    ∙ table_plan _ _ _ _ _ c.requires.0
    (words_fit c.args.rom.now (λ i. (c.shared_slice_known-2-1.given i).fits))
    (words_fit c.args.«data».now (λ i. (c.slice_known-1.given i).fits))
    c.requires.1 in
    record {
      outcome = rw (refusal, ← plan);
      external = rw refusal (ap (λ (p : Plan). p.outside) plan);
      stores = ap (λ (p : Plan). add_store p c.args.summary.now) plan;
    }

pub returns : goal.returns
unfolding step_of after_store add_store
returns c = let plan = (rw c.new.ensures at c.in_ok-pass.ensures)
    ∙ table_plan _ _ _ _ _ c.requires.0
    (words_fit c.args.rom.now (λ i. (c.shared_slice_known-2-1.given i).fits))
    (words_fit c.args.«data».now (λ i. (c.slice_known-1.given i).fits))
    c.requires.1 in
    record {
      outcome = rw (← plan, c.commit.ensures.0, c.commit.ensures.1);
      external = ap (λ (p : Plan). p.outside) plan;
      stores = c.count_store.ensures ∙ ap (λ (p : Plan). add_store p c.args.summary.now) plan;
    }
