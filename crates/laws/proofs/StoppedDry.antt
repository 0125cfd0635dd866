-- A run that a dry port stopped: proofs.
use Rattle.std.specs.Prelude.{◌≡◌, Bool, true, false, cond, List, [], ◌∷◌, ◌++◌, ℕ, zero, suc, ◌+◌, ◌≤◌, ◌<◌, eqb}
use Rattle.std.proofs.Math.Path.{refl, ap}
use Rattle.std.proofs.Common.{sym, ◌∙◌, append-nil, arith}
use Rattle.std.proofs.Math.Bool.{not}
use Rattle.std.proofs.lemmas.Bool.{false≢true}
use Rattle.std.proofs.Math.ListN.{length, length-append}
use borrow.Author.Tests.{lt-leb, eqb-true, not-false}
use Rattle.machine.specs.declared.Machine.{Machine}
use Rattle.operands.specs.declared.Address.{Address}
use Rattle.answers.specs.Answers.{Done, InputDry}
use Rattle.answers.specs.Numbers.{number_of, is_done}
use Rattle.instructions.specs.declared.Instruction.{Instruction}
use Rattle.instructions.specs.declared.Instruction.TheVariants.{Transfers}
use Rattle.instructions.specs.declared.Transfers.TheVariants.{In}
use Rattle.instructions.specs.declared.Decoded.{Decoded}
use Rattle.instructions.specs.declared.Decoded.TheVariants.{Built, Unbuilt, Nothing}
use Rattle.pages.specs.Traits.{transfers_traits, traits_of}
use Rattle.board.specs.Given.{Given}
use Rattle.board.specs.Slices.{port_spent}
use Rattle.board.specs.SliceLaws.{slices_fit_lem, longer_fits, port_ended}
use Rattle.steps.specs.Rows.{Row, row, first_given, NoneHolds}
use Rattle.steps.specs.OperandFound.{found_for}
use Rattle.steps.specs.Refusals.{takes, sends, wrong_port, input_dry, table_absent, output_full, pass_rows, access_rows, rest_rows}
use Rattle.steps.specs.World.{World}
use Rattle.steps.specs.Table.{decoded_at, second_word, table_for, checks_of, check_rows, fetch_rows, encoding_rows, instruction_rows, repeat_rows}
use Rattle.steps.specs.Step.{step_of, run_of, world_after}
use Rattle.steps.proofs.RowLaws.{every, every_first, row_not}
use Rattle.steps.proofs.TableLaws.{step_answer}
use Rattle.laws.specs.Laws.{AllDone, with_further, AtDryPort, RunStoppedDry}
use Rattle.laws.proofs.Steps.{◌and◌, row_given}
use Rattle.laws.proofs.Runs.{run_none, run_refused, run_done, by_first}
use Rattle.laws.proofs.Inputs.{takes_is_in}

-- ---- a step that answers 11

-- Test: a row's answer is not 11.
not_dry : Row → Bool
not_dry r = not (eqb (number_of r.answer) 11)

-- where a table gives 11 and its first rows have other answers, none of them holds, and the rest gives 11
reached : (rows rest : List Row) → every not_dry rows ≡ true → first_given (rows ++ rest) ≡ InputDry → NoneHolds rows × (first_given rest ≡ InputDry)
unfolding first_given not_dry
reached [] rest h e = (tt, e)
reached (r ∷ rows) rest h e = let both = every_first not_dry r rows h in by r.given refl both.0 (reached rows rest both.1) e
  where
    by : (t : Bool) → r.given ≡ t → not_dry r ≡ true → (first_given (rows ++ rest) ≡ InputDry → NoneHolds rows × (first_given rest ≡ InputDry))
        → cond t r.answer (first_given (rows ++ rest)) ≡ InputDry → NoneHolds (r ∷ rows) × (first_given rest ≡ InputDry)
    by true g other next e = absurd (false≢true (rw e at other))
    by false g other next e = ((g, (next e).0), (next e).1)

never_dry : (rows : List Row) → every not_dry rows ≡ true → first_given rows ≡ InputDry → ⊥
unfolding first_given
never_dry rows h e = false≢true (ap is_done (sym (reached rows [] h (rw append-nil e)).1))

row_11_holds : (dry : Bool) (rest : List Row) → every not_dry rest ≡ true → first_given (row "11" InputDry dry ∷ rest) ≡ InputDry → dry ≡ true
unfolding first_given
row_11_holds true rest h e = refl
row_11_holds false rest h e = absurd (never_dry rest h e)

-- the rows before 11's
rows_before : Given → List ℕ → ℕ → Machine → Instruction → List Row
rows_before g d output_length m i =
    check_rows g d output_length m ++ fetch_rows m ++ encoding_rows (Built i) ++ repeat_rows i m ++ access_rows (traits_of i) (found_for (traits_of i) d m).region

record DryStep (g : Given) (w : World) : Type 0 where
  at_in : AtDryPort g w
  none_before : NoneHolds (rows_before g w.«data» (length w.output) w.m (Transfers (In 0 at_in.operand)))

module _ (g : Given) (w : World) where
  -- an IN from port 0, by its row 9
  in_dry : (port : ℕ) (operand : Address) → decoded_at g w.«data» w.m ≡ Built (Transfers (In port operand))
      → NoneHolds (rows_before g w.«data» (length w.output) w.m (Transfers (In port operand))) → w.m.input_cursor ≡ length g.input → DryStep g w
  unfolding rows_before check_rows fetch_rows encoding_rows repeat_rows access_rows traits_of transfers_traits wrong_port
  in_dry port operand d n e =
      let zero_port : port ≡ 0 = eqb-true port 0 (not-false _ (row_not (rows_before g w.«data» (length w.output) w.m (Transfers (In port operand))) "9" n)) in
      record { at_in = record { operand = operand; word_is = rw zero_port at d; cursor_at_end = e }; none_before = rw zero_port at n }

  built_dry : (i : Instruction) → decoded_at g w.«data» w.m ≡ Built i → first_given (table_for (Built i) g w.«data» (length w.output) w.m) ≡ InputDry → DryStep g w
  unfolding rows_before table_for check_rows fetch_rows encoding_rows instruction_rows repeat_rows pass_rows access_rows rest_rows not_dry input_dry
  built_dry i d e =
      let rows = rows_before g w.«data» (length w.output) w.m i in
      let r = reached rows (rest_rows (traits_of i) (second_word i g w.«data» w.m) (length g.input) (length w.output) w.m) refl e in
      let fits = slices_fit_lem w.m g.rom w.«data» g.input (length w.output) (not-false _ (row_not rows "2" r.0)) in
      let holds = row_11_holds _ _ refl r.1 in
      let ended = port_ended (takes (traits_of i).port) (length g.input) w.m.input_cursor holds in
      let is = takes_is_in i ended.is_used in
      in_dry is.port is.operand (d ∙ ap Built is.same) (rw is.same at r.0) (omega (arith, fits.input_port.not_past, ended.at_end))

  decoded_dry : (x : Decoded) → decoded_at g w.«data» w.m ≡ x → first_given (table_for x g w.«data» (length w.output) w.m) ≡ InputDry → DryStep g w
  unfolding table_for check_rows fetch_rows encoding_rows instruction_rows not_dry
  decoded_dry (Built i) d e = built_dry i d e
  decoded_dry Unbuilt d e = absurd (never_dry (table_for Unbuilt g w.«data» (length w.output) w.m) refl e)
  decoded_dry Nothing d e = absurd (never_dry (table_for Nothing g w.«data» (length w.output) w.m) refl e)

  dry_step : (step_of g w).answer ≡ InputDry → DryStep g w
  dry_step e = decoded_dry (decoded_at g w.«data» w.m) refl (sym (step_answer g w) ∙ e)

  -- with a word more, no row holds
  goes_on : DryStep g w → (word : ℕ) (others : List ℕ) → length (g.input ++ (word ∷ others)) ≤ 1024 → (step_of (with_further g (word ∷ others)) w).answer ≡ Done
  unfolding rows_before table_for check_rows fetch_rows encoding_rows instruction_rows repeat_rows pass_rows access_rows rest_rows wrong_port input_dry table_absent output_full takes sends traits_of transfers_traits port_spent decoded_at
  goes_on s word others l =
      let rows = rows_before g w.«data» (length w.output) w.m (Transfers (In 0 s.at_in.operand)) in
      let n = s.none_before in
      let longer = length-append g.input (word ∷ others) in
      let more : length g.input ≤ length (g.input ++ (word ∷ others)) = omega (arith, longer) in
      let left : w.m.input_cursor < length (g.input ++ (word ∷ others)) = omega (arith, longer, s.at_in.cursor_at_end) in
      (row_given (with_further g (word ∷ others)) w).done_by (rw s.at_in.word_is
      (row_not rows "1" n
      and ap not (longer_fits w.m g.rom w.«data» g.input (g.input ++ (word ∷ others)) (length w.output) more l (not-false _ (row_not rows "2" n)))
      and row_not rows "5 for the first word" n
      and refl
      and refl
      and row_not rows "7" n
      and row_not rows "5 for the second word" n
      and refl
      and row_not rows "6" n
      and lt-leb (length (g.input ++ (word ∷ others))) w.m.input_cursor left
      and refl
      and refl
      and tt))

-- ---- a run that ends so

record EndsDry (g : Given) (budget : ℕ) (w : World) : Type 0 where
  unused : (run_of g budget w).steps < budget
  steps_done : AllDone g (run_of g budget w).steps w
  where_it_is : (run_of g budget w).world ≡ world_after g (run_of g budget w).steps w
  step_dry : (step_of g (run_of g budget w).world).answer ≡ InputDry

ends_dry : (g : Given) (budget : ℕ) (w : World) → (run_of g budget w).answer ≡ InputDry → EndsDry g budget w
unfolding checks_of check_rows not_dry AllDone world_after
ends_dry g zero w h = absurd (never_dry (check_rows g w.«data» (length w.output) w.m) refl (rw run_none at h))
ends_dry g (suc n) w h = by_first g w
    (λ d.
    let run = run_done g n w d in
    let after = ends_dry g n (step_of g w).world (rw run at h) in
    record {
      unused = rw run (omega (arith, after.unused));
      steps_done = rw run (d and after.steps_done);
      where_it_is = rw run after.where_it_is;
      step_dry = rw run after.step_dry;
    })
    (λ r.
    let run = run_refused g n w r in
    record { unused = rw run (omega arith); steps_done = rw run tt; where_it_is = rw run; step_dry = rw run (rw run at h) })

pub run_stopped_dry : RunStoppedDry
run_stopped_dry g budget w h =
    let end = ends_dry g budget w h in
    let step = dry_step g (run_of g budget w).world end.step_dry in
    record {
      unused = end.unused;
      steps_done = end.steps_done;
      where_it_is = end.where_it_is;
      at_in = step.at_in;
      dry_again = λ n. run_refused g n (run_of g budget w).world (ap is_done end.step_dry) ∙ rw end.step_dry;
      goes_on = λ word others l. goes_on g (run_of g budget w).world step word others l;
    }
