use Rattle.std.specs.Prelude.{true, false}
use Rattle.std.proofs.Common.{sym, ◌∙◌}
use Rattle.runfile_setting_up.specs.SetUp.{lent}
use Rattle.runfile_setting_up.specs.SetUpLaws.{set_up_tested}
use Rattle.runfile_setting_up.proofs.fitting.Goals as goal

pub returns-then-memories_fit-input : goal.returns-then-memories_fit-input
returns-then-memories_fit-input c = set_up_tested _ (lent c.args.rom.now c.args.data.now c.args.input.now)
    (sym c.read.ensures ∙ c.in_ok-n.was)
    c.memories_fit.ensures
    c.from.ensures
    true c.if-memories_fit-input.true

pub returns-else-memories_fit-input : goal.returns-else-memories_fit-input
returns-else-memories_fit-input c = set_up_tested _ (lent c.args.rom.now c.args.data.now c.args.input.now)
    (sym c.read.ensures ∙ c.in_ok-n.was)
    c.memories_fit.ensures
    c.from.ensures
    false c.if-memories_fit-input.false
