-- Not routine: what the loop keeps is that the steps done and the run still to come make up the whole run, and that checks 1 and 2 still hold.
use mathlib.Core.Path.{sym, refl, ◌∙◌}
use native.Mathlib.Omega.{arith}
use Rattle.std.proofs.Common.{ap}
use Rattle.answers.specs.Numbers.{is_done}
use Rattle.emulator.specs.RunLaws.{refused_run, refused_counts, refused_stores, words_fit, going_begins, going_checks, counted_fits, kept_begins, kept_on, kept_stops, kept_ends}
use Rattle.emulator.proofs.run_counted.Goals as goal

pub returns-in-Err : goal.returns-in-Err
returns-in-Err c =
    let checks = rw c.new.ensures at c.in-Err.ensures in
    let refused = ap is_done (sym checks) in
    rw (c.not_begun.ensures, checks)
    (record { outcome = sym (refused_run _ _ _ refused); external = sym (refused_counts _ _ _ refused); stores = sym (refused_stores _ _ _ _ refused) })

pub loop-steps-init : goal.loop-steps-init
loop-steps-init c = kept_begins _ _ _ _
    (going_begins _ _ _ (sym (rw c.new.ensures at c.in_default.ensures))
    (words_fit c.args.rom.now (λ i. (c.shared_slice_known-1.given i).fits))
    (words_fit c.args.input.now (λ i. (c.shared_slice_known-2-1.given i).fits))
    (words_fit c.args.«data».now (λ i. (c.slice_known-1.given i).fits))
    (words_fit c.args.output.now (λ i. (c.slice_known-2-1.given i).fits)))

pub checked_step-requires : goal.checked_step-requires
checked_step-requires c = (c.kinds-kinds.ensures, going_checks _ _ _ _ _ c.loop-steps.invariant.going)

pub overflow_add-totals : goal.overflow_add-totals
overflow_add-totals c = rw c.in_one-totals.ensures
    (omega (arith, counted_fits _ _ _ _ _ _ c.loop-steps.invariant.totalling c.loop-steps-test.true (omega (arith, c.ranges.budget)) _ c.in-Ok.ensures.external))

pub loop-steps-preserved : goal.loop-steps-preserved
loop-steps-preserved c =
    rw c.in_one-totals.ensures
    (kept_on _ _ _ _ _ _ _ _ c.loop-steps.invariant _ _
    c.in-Ok.ensures.outcome c.in-Ok.ensures.stores c.loop-steps-test.true refl
    c.checked_step.auto.«data» c.checked_step.auto.output
    _ c.in-Ok.ensures.external)

pub returns-in-Err-checked_step : goal.returns-in-Err-checked_step
returns-in-Err-checked_step c = let stops = kept_stops _ _ _ _ _ _ _ _ c.loop-steps.invariant _ _
    c.in-Err-checked_step.ensures.outcome c.in-Err-checked_step.ensures.stores c.loop-steps-test.true (omega (arith, c.ranges.budget)) refl in
    record { outcome = stops.0; external = c.apart.ensures ∙ stops.1.0; stores = stops.1.1 }

pub returns : goal.returns
returns c =
    let ends = kept_ends _ _ _ _ _ _ _ _ c.loop-steps.invariant (omega (arith, c.ranges.budget)) c.loop-steps-test.false in
    record { outcome = ends.0; external = c.apart-2.ensures ∙ ends.1.0; stores = ends.1.1 }
