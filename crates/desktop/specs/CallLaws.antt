-- How the calls of a step and of a run make what their contracts say.
use Rattle.std.specs.Prelude.{Result, Ok, Err, ◌≡◌, true, false, List, ℕ}
use Rattle.std.proofs.Math.Path.{refl}
use Rattle.std.proofs.Common.{ap, ◌∙◌}
use Rattle.machine.specs.declared.Machine.{Machine}
use Rattle.answers.specs.declared.Refusal.{Refusal}
use Rattle.answers.specs.Numbers.{number_of, is_done}
use Rattle.answers.specs.Answers.{SlicesUnfit}
use Rattle.steps.specs.declared.Outside.{Outside}
use Rattle.steps.specs.OperandFound.{none_outside}
use Rattle.steps.specs.World.{Outcome}
use Rattle.steps.specs.Step.{step_of, run_of}
use Rattle.steps.specs.Tally.{outside_of}
use Rattle.emulator.specs.declared.Stepped.{Stepped}
use Rattle.emulator.specs.declared.Ran.{Ran}
use Rattle.emulator.specs.Outcomes.{stepped, ran}
use Rattle.c_cell_laws.specs.CellLaws.{cells_machine}
use Rattle.c_cells.specs.Cells.{machine_of, cells_of}
use Rattle.c_cells.specs.Checks.{cells_answer, cells_after}
use Rattle.c_cells.specs.CheckLaws.{kept_after}
use Rattle.c_results.specs.Results.{results_fit, results_of, results_after}
use Rattle.desktop.specs.Calls.{Called, called, world_of, world_called, step_called, RunCalled, run_done, run_called, outside_called, run_with_called}
use Rattle.board.specs.Given.{Given}

-- what a call gives of a step, or of why there is none
abbrev pub step_given : List ℕ → Result Stepped Refusal → List ℕ → List ℕ → Called
step_given cells (Ok s) d o = called 0 (cells_after cells s.m) d o
step_given cells (Err refusal) d o = called (number_of (Err refusal)) cells d o

-- and of a run
abbrev pub run_given : List ℕ → Result Ran Refusal → List ℕ → List ℕ → RunCalled
run_given cells (Ok r) d o = record { steps = r.steps; after = called (number_of r.answer) (cells_after cells r.m) d o }
run_given cells (Err refusal) d o = record { steps = 0; after = called (number_of (Err refusal)) cells d o }

abbrev pub outside_given : Result Ran Refusal → Outside
outside_given (Ok r) = r.outside
outside_given (Err refusal) = none_outside

module _ (g : Given) (cells d o : List ℕ) where
  -- cells that are refused: their answer's number, and nothing else
  module _ {n : ℕ} (h : is_done (cells_answer cells) ≡ false) (k : n ≡ number_of (cells_answer cells)) where
    pub step_refused : called n cells d o ≡ step_called g cells d o
    unfolding step_called
    step_refused = simp h (rw k)

    pub run_refused : (budget : ℕ) {steps : ℕ} → steps ≡ 0 → record { steps = steps; after = called n cells d o } ≡ run_called g budget cells d o
    unfolding run_called
    run_refused budget s = simp h (rw (s, k))

  module _ {m : Machine} (h : is_done (cells_answer cells) ≡ true) (e : m ≡ machine_of cells) where
    pub step_made : (s : Result Stepped Refusal) (d₂ o₂ : List ℕ)
        → stepped m s d₂ o₂ ≡ step_of g (record { m = m; «data» = d; output = o })
        → step_given cells s d₂ o₂ ≡ step_called g cells d o
    unfolding step_called
    step_made s d₂ o₂ f =
        let same : stepped m s d₂ o₂ ≡ step_of g (world_of cells d o) = f ∙ rw e in
        simp h (given_is s ∙ ap (λ (x : Outcome). world_called x.answer x.world) same)
      where
        given_is : (s : Result Stepped Refusal) → step_given cells s d₂ o₂ ≡ world_called (stepped m s d₂ o₂).answer (stepped m s d₂ o₂).world
        given_is (Ok s) = rw (kept_after cells s.m h)
        given_is (Err refusal) = rw (e, cells_machine cells h)

    pub run_made : (budget : ℕ) (r : Ran) {after d₂ o₂ : List ℕ} {n steps : ℕ}
        → ran r d₂ o₂ ≡ run_of g budget (record { m = m; «data» = d; output = o })
        → after ≡ cells_after cells r.m
        → steps ≡ r.steps
        → n ≡ number_of r.answer
        → record { steps = steps; after = called n after d₂ o₂ } ≡ run_called g budget cells d o
    unfolding run_called
    run_made budget r {after} {d₂} {o₂} {n} f a s k =
        let same : ran r d₂ o₂ ≡ run_of g budget (world_of cells d o) = f ∙ rw e in
        let cells₂ : after ≡ cells_of r.m = a ∙ kept_after cells r.m h in
        simp h (rw (s, k, cells₂) (ap run_done same))

-- ---- a run with all that it hands out

module _ (g : Given) (budget : ℕ) (cells d o results : List ℕ) where
  -- what the call gives, where its results are of their number
  module _ (fits : results_fit results ≡ true) where
    pub with_run : {steps n : ℕ} {outside : Outside} {after d₂ o₂ numbers : List ℕ} → numbers ≡ results_after results steps outside
        → record { steps = steps; after = called n after d₂ o₂ } ≡ run_called g budget cells d o → outside ≡ outside_called g budget cells d o
        → record { results = numbers; after = called n after d₂ o₂ } ≡ run_with_called g budget cells d o results
    unfolding run_with_called results_after
    with_run e r f = simp fits (rw (e, fits, f) (ap (λ (x : RunCalled). record { results = results_of x.steps (outside_called g budget cells d o); after = x.after }) r))

    pub run_with_refused : {n : ℕ} {numbers : List ℕ} → is_done (cells_answer cells) ≡ false → n ≡ number_of (cells_answer cells) → numbers ≡ results_after results 0 none_outside
        → record { results = numbers; after = called n cells d o } ≡ run_with_called g budget cells d o results
    unfolding outside_called
    run_with_refused h k e = with_run e (run_refused g cells d o h k budget refl) (simp h)

    pub run_with_made : {m : Machine} → is_done (cells_answer cells) ≡ true → m ≡ machine_of cells → (r : Ran) {after d₂ o₂ numbers : List ℕ} {n : ℕ}
        → ran r d₂ o₂ ≡ run_of g budget (record { m = m; «data» = d; output = o })
        → r.outside ≡ outside_of g budget (record { m = m; «data» = d; output = o })
        → numbers ≡ results_after results r.steps r.outside
        → after ≡ cells_after cells r.m
        → n ≡ number_of r.answer
        → record { results = numbers; after = called n after d₂ o₂ } ≡ run_with_called g budget cells d o results
    unfolding outside_called
    run_with_made h e r f u numbers a k = with_run numbers (run_made g cells d o h e budget r f a refl k) (simp h (u ∙ rw e))

  pub results_refused : {n : ℕ} → results_fit results ≡ false → n ≡ number_of SlicesUnfit → record { results = results; after = called n cells d o } ≡ run_with_called g budget cells d o results
  unfolding run_with_called
  results_refused h k = simp h (rw k)
