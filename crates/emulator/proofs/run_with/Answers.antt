use mathlib.Core.Path.{sym, ◌∙◌}
use Rattle.steps.proofs.SummaryLaws.{refused_run, refused_outside, refused_summary, begun_run, begun_outside, begun_summary}
use Rattle.std.proofs.Common.{ap}
use Rattle.answers.specs.Numbers.{is_done}
use Rattle.emulator.proofs.run_with.Goals as goal

pub returns-in-Err : goal.returns-in-Err
returns-in-Err c =
    let checks = rw c.new-lent.ensures at c.in-Err.ensures in
    let refused = ap is_done (sym checks) in
    rw (c.not_begun.ensures, checks)
    (record { outcome = sym (refused_run _ _ _ _ refused); external = sym (refused_outside _ _ _ _ refused); stores = sym (refused_summary _ _ _ _ refused) })

pub returns : goal.returns
returns c =
    let begun = ap is_done (sym (rw c.new-lent.ensures at c.in_default.ensures)) in
    record { outcome = c.run_counted.ensures.outcome ∙ sym (begun_run _ _ _ _ begun); external = c.run_counted.ensures.external ∙ sym (begun_outside _ _ _ _ begun); stores = c.run_counted.ensures.stores ∙ sym (begun_summary _ _ _ _ begun) }
