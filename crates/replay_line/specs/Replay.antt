-- What `replay` prints of a file (document 01, "The run file and its one line").
use Rattle.std.specs.Prelude.{cond, List, ℕ, replicate}
use Rattle.machine.specs.Reset.{reset_machine}
use Rattle.answers.specs.Numbers.{is_done}
use Rattle.runfile.specs.Files.{Contents, read_answer, read_contents}
use Rattle.runfile_setting_up.specs.SetUp.{loaded}
use Rattle.board.specs.Given.{Given, given}
use Rattle.steps.specs.World.{World, RunOutcome}
use Rattle.steps.specs.Step.{run_of}
use Rattle.line.specs.Lines.{line_of, refused_line}

-- "runs from reset with an output slice of 1,024 words"
unfoldable pub start_of : Contents → World
start_of c = record { m = reset_machine; «data» = (loaded c).data_memory; output = replicate 1024 0 }

-- the ROM and the input words of a file
unfoldable pub given_of : Contents → Given
given_of c = given (loaded c).rom (loaded c).input

unfoldable pub replay_run : Contents → RunOutcome
replay_run c = run_of (given_of c) c.budget (start_of c)

-- the line of a run also where a step was refused (ruling R35)
unfoldable pub run_line : RunOutcome → List ℕ
run_line r = line_of r.answer r.steps r.world.m r.world.output

-- "A refused file prints its number alone and a newline."
unfoldable pub replay_line : List ℕ → List ℕ
replay_line bytes =
    cond (is_done (read_answer bytes)) (run_line (replay_run (read_contents bytes)))
    (refused_line (read_answer bytes))
