-- What a step stores lies in the lent slices, and what a run keeps on its way.
use Rattle.std.specs.Prelude.{◌≡◌, refl, true, false, List, ℕ, suc, ◌+◌, ◌-◌, ◌≤◌, ◌<◌, length}
use Rattle.std.proofs.Common.{sym, ◌∙◌, arith}
use Rattle.std.proofs.Math.Path.{ap}
use Rattle.std.proofs.lemmas.Bool.{not-false}
use Rattle.machine.specs.declared.Machine.{Machine}
use Rattle.answers.specs.Numbers.{is_done}
use Rattle.instructions.specs.declared.Decoded.{Decoded}
use Rattle.instructions.specs.declared.Decoded.TheVariants.{Built, Unbuilt, Nothing}
use Rattle.board.specs.SliceLaws.{slices_fit_lem}
use Rattle.board.specs.Given.{Given}
use Rattle.steps.specs.Plan.{Plan}
use Rattle.steps.specs.Rows.{NoneHolds}
use Rattle.steps.specs.Refusals.{pass_rows, access_rows, rest_rows}
use Rattle.steps.specs.Pass.{performed}
use Rattle.steps.proofs.StoreLaws.{WriteFits, write_fits}
use Rattle.steps.specs.World.{World, Outcome, RunOutcome}
use Rattle.steps.specs.Table.{decoded_at, second_word, checks_of, table_for, check_rows, fetch_rows, encoding_rows, instruction_rows, repeat_rows}
use Rattle.steps.specs.Step.{plan_of, step_of, run_of, page_plan}
use Rattle.steps.proofs.RowLaws.{row_not, plan_has}

module _ (g : Given) (d : List ℕ) (output_length : ℕ) (m : Machine) where
  -- what a plan stores fits the data slice
  abbrev Fits : Plan → Type 0
  Fits p = WriteFits p.write (length d)

  decoded_fits : (x : Decoded) → NoneHolds (table_for x g d output_length m) → Fits (page_plan x g d m)
  unfolding table_for check_rows fetch_rows encoding_rows instruction_rows repeat_rows pass_rows access_rows rest_rows page_plan performed
  decoded_fits (Built i) n =
      write_fits i (second_word i g d m) g d m
      (slices_fit_lem m g.rom d g.input output_length (not-false _ (row_not (table_for (Built i) g d output_length m) "2" n))).memories.data_size
      (row_not (table_for (Built i) g d output_length m) "6" n)
  decoded_fits Unbuilt n = tt
  decoded_fits Nothing n = tt

  pub step_fits : WriteFits (plan_of g d output_length m).write (length d)
  unfolding plan_of
  step_fits = plan_has m _ Fits (table_for (decoded_at g d m) g d output_length m) (λ a. tt) (decoded_fits (decoded_at g d m))

-- ---- a run on its way: k steps done, and the rest to come
abbrev pub later : ℕ → RunOutcome → RunOutcome
later k r = record { world = r.world; steps = k + r.steps; answer = r.answer }

module _ (g : Given) where
  pub run_begins : (budget : ℕ) (w : World) → later 0 (run_of g (budget - 0) w) ≡ run_of g budget w
  run_begins budget w = let e : budget - 0 ≡ budget = omega arith in rw e (ap (λ (n : ℕ). record { world = (run_of g budget w).world; steps = n; answer = (run_of g budget w).answer }) (omega arith))

  one_of : (n k : ℕ) (w : World) → is_done (step_of g w).answer ≡ true → later k (run_of g (suc n) w) ≡ later (k + 1) (run_of g n (step_of g w).world)
  unfolding run_of
  one_of n k w h = rw h (ap (λ (s : ℕ). record { world = (run_of g n (step_of g w).world).world; steps = s; answer = (run_of g n (step_of g w).world).answer }) (omega arith))

  pub run_goes : (budget k : ℕ) (w : World) → k < budget → is_done (step_of g w).answer ≡ true
      → later k (run_of g (budget - k) w) ≡ later (k + 1) (run_of g (budget - (k + 1)) (step_of g w).world)
  run_goes budget k w l h =
      let e : budget - k ≡ suc (budget - (k + 1)) = omega arith in
      rw e (one_of (budget - (k + 1)) k w h)

  stop_of : (n k : ℕ) (w : World) → is_done (step_of g w).answer ≡ false
      → later k (run_of g (suc n) w) ≡ record { world = (step_of g w).world; steps = k; answer = (step_of g w).answer }
  unfolding run_of
  stop_of n k w h = rw h (ap (λ (s : ℕ). record { world = (step_of g w).world; steps = s; answer = (step_of g w).answer }) (omega arith))

  pub run_stops : (budget k : ℕ) (w : World) → k < budget → is_done (step_of g w).answer ≡ false
      → later k (run_of g (budget - k) w) ≡ record { world = (step_of g w).world; steps = k; answer = (step_of g w).answer }
  run_stops budget k w l h =
      let e : budget - k ≡ suc (budget - (k + 1)) = omega arith in
      rw e (stop_of (budget - (k + 1)) k w h)

  end_of : (k : ℕ) (w : World) → later k (run_of g 0 w) ≡ record { world = w; steps = k; answer = checks_of g w.«data» (length w.output) w.m }
  unfolding run_of
  end_of k w = ap (λ (s : ℕ). record { world = w; steps = s; answer = checks_of g w.«data» (length w.output) w.m }) (omega arith)

  pub run_ends : (budget k : ℕ) (w : World) → budget ≤ k
      → later k (run_of g (budget - k) w) ≡ record { world = w; steps = k; answer = checks_of g w.«data» (length w.output) w.m }
  run_ends budget k w l =
      let e : budget - k ≡ 0 = omega arith in
      rw e (end_of k w)

  -- what the loop of a run keeps: from w₀ on, k steps are done, and the world is now w
  pub record Running (budget : ℕ) (w₀ w : World) (k : ℕ) : Type 0 where
    pub within : k ≤ budget
    pub data_length : length w.«data» ≡ length w₀.«data»
    pub output_length : length w.output ≡ length w₀.output
    pub same : later k (run_of g (budget - k) w) ≡ run_of g budget w₀

  pub running_begins : (budget : ℕ) (w : World) → Running budget w w 0
  running_begins budget w = record { within = omega arith; data_length = refl; output_length = refl; same = run_begins budget w }

  module _ (budget : ℕ) (w₀ w : World) (k : ℕ) (r : Running budget w₀ w k) where
    pub running_goes : (o : Outcome) → o ≡ step_of g w → k < budget → is_done o.answer ≡ true
        → length o.world.«data» ≡ length w.«data» → length o.world.output ≡ length w.output → Running budget w₀ o.world (k + 1)
    running_goes o e l h dl ol =
        record {
          within = omega arith;
          data_length = dl ∙ r.data_length;
          output_length = ol ∙ r.output_length;
          same = rw e (sym (run_goes budget k w l (ap (λ (x : Outcome). is_done x.answer) (sym e) ∙ h)) ∙ r.same);
        }

    pub running_stops : (o : Outcome) → o ≡ step_of g w → k < budget → is_done o.answer ≡ false
        → record { world = o.world; steps = k; answer = o.answer } ≡ run_of g budget w₀
    running_stops o e l h = rw e (sym (run_stops budget k w l (ap (λ (x : Outcome). is_done x.answer) (sym e) ∙ h)) ∙ r.same)

    pub running_ends : budget ≤ k → record { world = w; steps = k; answer = checks_of g w.«data» (length w.output) w.m } ≡ run_of g budget w₀
    running_ends l = sym (run_ends budget k w l) ∙ r.same
