-- Not routine: cells that pass the checks are of the right number, so that storing a machine replaces them all.
use Rattle.std.proofs.Common.{refl}
use Rattle.board.specs.Given.{given}
use Rattle.c_cells.specs.CheckLaws.{machine_passed}
use Rattle.desktop.specs.CallLaws.{run_made}
use Rattle.desktop.proofs.running.run_of_cells.Goals as goal

pub returns-clause-outcome : goal.returns-clause-outcome
returns-clause-outcome c = let passed = machine_passed c.args.cells.now c.in_ok-checked_machine.ensures in
    run_made (given c.args.rom.now c.args.input.now) c.args.cells.now c.args.«data».now c.args.output.now passed.0 passed.1 c.args.budget c.run.result
    c.run.ensures.outcome refl refl refl
