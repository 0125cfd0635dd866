-- Not routine: an address that is present and not in ROM is in B0, from FF00h on, so that the subtraction cannot go below 0.
use Rattle.std.proofs.Common.{ap, sym, ◌∙◌}
use Rattle.answers.specs.Numbers.{is_done}
use Rattle.c_window.specs.CallLaws.{past_rom}
use Rattle.c_window.proofs.window.place_of.Goals as goal

pub overflow_sub-result : goal.overflow_sub-result
overflow_sub-result c = rw c.from-from.ensures (past_rom c.args.m c.args.address c.args.rom.now c.args.«data».now (sym (ap is_done c.in_ok-window_answer.ensures)) (sym c.in_rom.ensures ∙ c.if-in_rom.false))
