-- Not routine: cells that pass the checks are of the right number, so that storing a machine replaces them all, and are those of their machine.
use Rattle.board.specs.Given.{given}
use Rattle.c_cells.specs.CheckLaws.{machine_passed}
use Rattle.desktop.specs.CallLaws.{step_made}
use Rattle.desktop.proofs.running.step_of_cells.Goals as goal

pub returns : goal.returns
returns c = let passed = machine_passed c.args.cells.now c.in_ok-checked_machine.ensures in
    step_made (given c.args.rom.now c.args.input.now) c.args.cells.now c.args.«data».now c.args.output.now passed.0 passed.1 c.step.result
    c.step.new.«data» c.step.new.output
    c.step.ensures.outcome
