use Rattle.board.specs.Given.{given}
use Rattle.emulator.specs.RunLaws.{Kept}
use Rattle.emulator.proofs.run_counted.Given as goal

abbrev pub invariant-loop-steps : goal.invariant-loop-steps
invariant-loop-steps l =
    Kept (given l.rom l.input) l.budget (record { m = l.initial.n; «data» = l.initial.«data»; output = l.initial.output }) l.initial.summary (record { m = l.n; «data» = l.«data»; output = l.output }) l.summary l.steps l.totals
