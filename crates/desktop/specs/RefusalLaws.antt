-- "A refusal returns the state given": a refused step changes no cell and no word, and neither does a run of no steps.
use Rattle.std.specs.Prelude.{Ok, Err, ◌≡◌, Bool, List, ℕ, zero, suc, eqb}
use Rattle.std.proofs.Math.Path.{refl}
use Rattle.std.proofs.Math.Bool.{true, false}
use Rattle.std.proofs.Common.{sym, arith}
use Rattle.std.proofs.lemmas.Bool.{false≢true}
use Rattle.answers.specs.Answers.{Answer}
use Rattle.answers.specs.Numbers.{number_of, is_done}
use Rattle.steps.specs.World.{World}
use Rattle.steps.specs.Step.{step_of, run_of}
use Rattle.laws.proofs.Steps.{refused_unchanged}
use Rattle.c_cells.specs.Checks.{cells_answer}
use Rattle.c_cell_laws.specs.CellLaws.{cells_machine}
use Rattle.desktop.specs.Calls.{called, world_of, world_called, step_called, run_called}
use Rattle.board.specs.Given.{Given}

-- an answer with another number than 0 is a refusal
not_done : (a : Answer) → eqb (number_of a) 0 ≡ false → is_done a ≡ false
not_done (Ok tt) h = absurd (false≢true (sym h))
not_done (Err refusal) h = refl

-- a run of no steps leaves the world that it got
run_of_none : (g : Given) (budget : ℕ) (w : World) → (run_of g budget w).steps ≡ 0 → (run_of g budget w).world ≡ w
unfolding run_of
run_of_none g zero w h = refl
run_of_none g (suc n) w h = by (is_done (step_of g w).answer) refl
  where
    by : (t : Bool) → is_done (step_of g w).answer ≡ t → (run_of g (suc n) w).world ≡ w
    by true e = absurd (omega (arith, simp e at h))
    by false e = simp e (refused_unchanged g w e)

module _ (g : Given) (cells d o : List ℕ) where
  -- the world that was lent is the cells and the words that were lent
  same_called : (a : Answer) (w : World) → is_done (cells_answer cells) ≡ true → w ≡ world_of cells d o → world_called a w ≡ called (number_of a) cells d o
  same_called a w h e = rw (e, cells_machine cells h)

  pub refused_step : eqb (step_called g cells d o).answer 0 ≡ false → step_called g cells d o ≡ called (step_called g cells d o).answer cells d o
  unfolding step_called
  refused_step r = by (is_done (cells_answer cells)) refl
    where
      by : (t : Bool) → is_done (cells_answer cells) ≡ t → step_called g cells d o ≡ called (step_called g cells d o).answer cells d o
      by true h =
          simp h (same_called (step_of g (world_of cells d o)).answer (step_of g (world_of cells d o)).world h (refused_unchanged g (world_of cells d o) (not_done (step_of g (world_of cells d o)).answer (simp h at r))))
      by false h = simp h

  pub run_no_steps : (budget : ℕ) → (run_called g budget cells d o).steps ≡ 0
      → (run_called g budget cells d o).after ≡ called (run_called g budget cells d o).after.answer cells d o
  unfolding run_called
  run_no_steps budget none = by (is_done (cells_answer cells)) refl
    where
      by : (t : Bool) → is_done (cells_answer cells) ≡ t
          → (run_called g budget cells d o).after ≡ called (run_called g budget cells d o).after.answer cells d o
      by true h =
          simp h (same_called (run_of g budget (world_of cells d o)).answer (run_of g budget (world_of cells d o)).world h (run_of_none g budget (world_of cells d o) (simp h at none)))
      by false h = simp h
