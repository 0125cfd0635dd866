-- A run keeps the world in range and never gives 1 or 2, and reset starts in range: proofs.
use Rattle.std.specs.Prelude.{◌≡◌, refl, Bool, true, false, cond, List, [], ◌∷◌, ◌++◌, length, ltb}
use Rattle.std.proofs.Common.{sym, ◌∙◌, le-leb, eq-eqb, ltb-true}
use Rattle.std.proofs.lemmas.Bool.{false≢true}
use Prim.Native.Nat.{ℕ, zero, suc, ◌<◌}
use native.Mathlib.Omega.{arith}
use Rattle.machine.specs.declared.Machine.{Machine}
use Rattle.machine.specs.Reset.{reset_machine}
use Rattle.machine.specs.Range.{in_range}
use Rattle.machine.specs.RangeLaws.{reset_in_range}
use Rattle.answers.specs.Answers.{Answer}
use Rattle.answers.specs.Answers.{Done}
use Rattle.answers.specs.Numbers.{number_of}
use Rattle.instructions.specs.declared.Decoded.{Decoded}
use Rattle.instructions.specs.declared.Decoded.TheVariants.{Built, Unbuilt, Nothing}
use Rattle.board.specs.Slices.{memories_fit, port_fits, slices_fit}
use Rattle.board.specs.Given.{Given}
use Rattle.steps.specs.Rows.{Row, first_given}
use Rattle.steps.specs.World.{World, RunOutcome}
use Rattle.steps.specs.Table.{decoded_at, table_for, checks_of, check_rows, fetch_rows, encoding_rows, instruction_rows, repeat_rows}
use Rattle.steps.specs.Step.{step_of, run_of}
use Rattle.steps.proofs.RowLaws.{every, every_first}
use Rattle.steps.specs.Refusals.{pass_rows, access_rows, rest_rows}
use Rattle.steps.proofs.TableLaws.{step_answer}
use Rattle.laws.specs.Laws.{AllDone}
use Rattle.laws.proofs.Runs.{run_none, run_refused, run_done, by_first}
use Rattle.ranges.specs.Ranges.{WorldInRange, StartInRange, RunInRange, RunsInRange}
use Rattle.ranges.proofs.Steps.{step_in_range}

-- an answer that is neither 1 nor 2
pub record Other (a : Answer) : Type 0 where
  pub not_1 : number_of a ≡ 1 → ⊥
  pub not_2 : number_of a ≡ 2 → ⊥

-- Test: the number of a row is above 2.
above2 : Row → Bool
above2 r = ltb 2 (number_of r.answer)

other_above : (a : Answer) → ltb 2 (number_of a) ≡ true → Other a
other_above a h = let above : 2 < number_of a = ltb-true _ _ h in record { not_1 = λ e. omega (arith, above, e); not_2 = λ e. omega (arith, above, e) }

none_other : Other Done
none_other = record { not_1 = λ e. omega arith; not_2 = λ e. omega arith }

rows_other : (rows : List Row) → every above2 rows ≡ true → Other (first_given rows)
unfolding first_given above2
rows_other [] h = none_other
rows_other (r ∷ rows) h =
    let both = every_first above2 r rows h in
    by r.given (other_above r.answer both.0) (rows_other rows both.1)
  where
    by : (t : Bool) → Other r.answer → Other (first_given rows) → Other (cond t r.answer (first_given rows))
    by true a b = a
    by false a b = b

-- the rows behind checks 1 and 2
later_other : (c : Decoded) (g : Given) («data» : List ℕ) (o : ℕ) (m : Machine) → Other (first_given (fetch_rows m ++ (encoding_rows c ++ instruction_rows c g «data» o m)))
unfolding above2 fetch_rows encoding_rows instruction_rows repeat_rows pass_rows access_rows rest_rows
later_other (Built i) g «data» o m = rows_other (fetch_rows m ++ (encoding_rows (Built i) ++ instruction_rows (Built i) g «data» o m)) refl
later_other Unbuilt g «data» o m = rows_other (fetch_rows m ++ (encoding_rows Unbuilt ++ [])) refl
later_other Nothing g «data» o m = rows_other (fetch_rows m ++ (encoding_rows Nothing ++ [])) refl

table_other : (c : Decoded) (g : Given) («data» : List ℕ) (o : ℕ) (m : Machine) → in_range m ≡ true → slices_fit m g.rom «data» g.input o ≡ true
    → Other (first_given (table_for c g «data» o m))
unfolding first_given table_for check_rows
table_other c g «data» o m h k = rw (h, k) (later_other c g «data» o m)

pub checks_done : (g : Given) («data» : List ℕ) (o : ℕ) (m : Machine) → in_range m ≡ true → slices_fit m g.rom «data» g.input o ≡ true → checks_of g «data» o m ≡ Done
unfolding checks_of check_rows first_given
checks_done g «data» o m h k = rw (h, k)

module _ (g : Given) where
  step_other : (w : World) → WorldInRange g w → Other (step_of g w).answer
  step_other w k = rw (step_answer g w) (table_other (decoded_at g w.«data» w.m) g w.«data» (length w.output) w.m k.in_range k.slices_fit)

  -- a run, by what it comes to
  run_to : (n : ℕ) (w : World) (r : RunOutcome) → run_of g n w ≡ r → WorldInRange g r.world → Other r.answer
      → (AllDone g n w → r.answer ≡ Done) → RunInRange g n w
  run_to n w r e k other done = record { world_in_range = rw e k; never_1 = rw e other.not_1; never_2 = rw e other.not_2; done_answer = λ d. rw e (done d) }

  run_keeps : (n : ℕ) (w : World) → WorldInRange g w → RunInRange g n w
  unfolding AllDone
  run_keeps zero w k =
      let done = checks_done g w.«data» (length w.output) w.m k.in_range k.slices_fit in
      run_to 0 w _ (run_none g w) k (rw done (record { not_1 = λ e. omega arith; not_2 = λ e. omega arith })) (λ a. done)
  run_keeps (suc n) w k =
      by_first g w
      (λ d.
      let r = run_keeps n (step_of g w).world (step_in_range g w k) in
      run_to (suc n) w _ (run_done g n w d) r.world_in_range (record { not_1 = r.never_1; not_2 = r.never_2 }) (λ a. r.done_answer a.1))
      (λ d. run_to (suc n) w _ (run_refused g n w d) k (step_other w k) (λ a. absurd (false≢true (sym d ∙ a.0))))

pub runs_in_range : RunsInRange
runs_in_range g budget w k = run_keeps g budget w k

-- ---- reset

pub start_in_range : StartInRange
unfolding reset_machine slices_fit memories_fit port_fits
start_in_range g «data» output hr hd hi ho fr fd fi fo = record {
  in_range = reset_in_range;
  slices_fit = simp (eq-eqb _ _ hr, eq-eqb _ _ hd, le-leb _ _ hi, le-leb _ _ ho, le-leb 0 (length g.input) (omega arith), le-leb 0 (length output) (omega arith));
  rom_words = fr;
  input_words = fi;
  data_words = fd;
  output_words = fo;
}
