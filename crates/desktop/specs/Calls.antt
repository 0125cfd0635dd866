-- A step and a run of a machine in numbers: the emulator's own on the machine of the cells, or a refusal of the cells, which changes nothing.
use Rattle.std.specs.Prelude.{cond, List, ℕ}
use Rattle.answers.specs.Answers.{Answer}
use Rattle.answers.specs.Answers.{SlicesUnfit}
use Rattle.answers.specs.Numbers.{number_of, is_done}
use Rattle.steps.specs.declared.Outside.{Outside}
use Rattle.steps.specs.OperandFound.{none_outside}
use Rattle.steps.specs.World.{World, RunOutcome}
use Rattle.steps.specs.Step.{step_of, run_of}
use Rattle.steps.specs.Tally.{outside_of}
use Rattle.c_cells.specs.Cells.{machine_of, cells_of}
use Rattle.c_cells.specs.Checks.{cells_answer}
use Rattle.c_results.specs.Results.{results_fit, results_of}
use Rattle.board.specs.Given.{Given}

-- what a call gives, and what its cells, its data words and its output words are then
pub record Called : Type 0 where
  pub answer : ℕ
  pub cells : List ℕ
  pub data_words : List ℕ
  pub output : List ℕ

abbrev pub called : ℕ → List ℕ → List ℕ → List ℕ → Called
called answer cells data_words output =
    record { answer = answer; cells = cells; data_words = data_words; output = output }

-- the world that a call is made in
abbrev pub world_of : List ℕ → List ℕ → List ℕ → World
world_of cells data_words output = record { m = machine_of cells; «data» = data_words; output = output }

-- an answer, and a world as numbers
abbrev pub world_called : Answer → World → Called
world_called answer w = called (number_of answer) (cells_of w.m) w.«data» w.output

unfoldable pub step_called : Given → List ℕ → List ℕ → List ℕ → Called
step_called g cells data_words output =
    cond (is_done (cells_answer cells))
    (world_called (step_of g (world_of cells data_words output)).answer (step_of g (world_of cells data_words output)).world)
    (called (number_of (cells_answer cells)) cells data_words output)

-- the steps stand beside what a run gives
pub record RunCalled : Type 0 where
  pub steps : ℕ
  pub after : Called

abbrev pub run_done : RunOutcome → RunCalled
run_done r = record { steps = r.steps; after = world_called r.answer r.world }

unfoldable pub run_called : Given → ℕ → List ℕ → List ℕ → List ℕ → RunCalled
run_called g budget cells data_words output =
    cond (is_done (cells_answer cells)) (run_done (run_of g budget (world_of cells data_words output)))
    (record { steps = 0; after = called (number_of (cells_answer cells)) cells data_words output })

-- ---- a run with all that it hands out (document 02, request 7)

-- the external reads and writes of a run, and none where the cells are refused
unfoldable pub outside_called : Given → ℕ → List ℕ → List ℕ → List ℕ → Outside
outside_called g budget cells data_words output = cond (is_done (cells_answer cells)) (outside_of g budget (world_of cells data_words output)) none_outside

pub record RunWithCalled : Type 0 where
  pub results : List ℕ
  pub after : Called

-- Results of a wrong length are refused before anything else is looked at; else the call is that of a run.
unfoldable pub run_with_called : Given → ℕ → List ℕ → List ℕ → List ℕ → List ℕ → RunWithCalled
run_with_called g budget cells data_words output results =
    cond (results_fit results)
    (record {
      results = results_of (run_called g budget cells data_words output).steps (outside_called g budget cells data_words output);
      after = (run_called g budget cells data_words output).after;
    })
    (record { results = results; after = called (number_of SlicesUnfit) cells data_words output })
