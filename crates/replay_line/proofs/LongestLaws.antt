-- Every line of `replay` is within the longest.
use Rattle.std.specs.Prelude.{◌≡◌, refl, Bool, true, false, cond, List, [], ℕ, zero, suc, ◌≤◌, length, take}
use Rattle.std.proofs.Common.{arith, length-take, le-leb}
use Rattle.machine.specs.declared.Machine.{Machine}
use Rattle.machine.specs.RangeLaws.{ranged, most}
use Rattle.answers.specs.Answers.{Done}
use Rattle.answers.specs.Numbers.{number_of, is_done}
use Rattle.answers.proofs.NumberLaws.{done_is, number_below}
use Rattle.board.specs.SliceLaws.{slices_fit_lem}
use Rattle.board.specs.Windows.{words_sent, words_sent_answer}
use Rattle.board.specs.Given.{Given}
use Rattle.runfile.specs.Files.{read_answer, read_contents, contents_fit}
use Rattle.runfile.specs.Facts.{Below}
use Rattle.runfile.specs.FileLaws.{counts_facts}
use Rattle.runfile_round_trips.specs.RoundTrip.{read_within, read_sixteen_bits}
use Rattle.steps.specs.World.{World, RunOutcome}
use Rattle.steps.specs.Step.{step_of, run_of}
use Rattle.laws.proofs.Runs.{run_none, run_done, run_refused, by_first}
use Rattle.ranges.specs.Ranges.{WorldInRange}
use Rattle.ranges.proofs.Runs.{runs_in_range}
use Rattle.line_fields.specs.Placing.{line_in, length_in}
use Rattle.line_fields.specs.PlacingLaws.{line_length, number_length}
use Rattle.line.specs.Lines.{refused_line, parted}
use Rattle.line.proofs.LineLaws.{line_of_lem}
use Rattle.replay_line.specs.Replay.{start_of, replay_run, run_line, replay_line, given_of}
use Rattle.replay_line.specs.Longest.{longest_line, LineWithin, LineWhole}
use Rattle.replay_line.specs.Digits.{one_digit, two_digits, five_digits}
use Rattle.replay_line.specs.Start.{replay_starts}

-- a run does no more steps than its budget
steps_most : (g : Given) (budget : ℕ) (w : World) → (run_of g budget w).steps ≤ budget
steps_most g zero w = rw (run_none g w) (omega arith)
steps_most g (suc n) w =
    by_first g w (λ d. rw (run_done g n w d) (omega (arith, steps_most g n (step_of g w).world)))
    (λ d. rw (run_refused g n w d) (omega arith))

sent_most : (m : Machine) (output : List ℕ) → length (words_sent m output) ≤ length output
unfolding words_sent
sent_most m output = by (is_done (words_sent_answer m output))
  where
    by : (t : Bool) → length (cond t (take m.output_cursor output) []) ≤ length output
    by true = omega (arith, length-take m.output_cursor output)
    by false = omega arith

-- the line of a run that ends in range, within a 16-bit budget
run_line_most : (g : Given) (r : RunOutcome) → WorldInRange g r.world → r.steps ≤ 65535 → length (run_line r) ≤ longest_line
unfolding run_line
run_line_most g r k h =
    let w = r.world in
    let words = words_sent w.m w.output in
    let room = (slices_fit_lem w.m g.rom w.«data» g.input (length w.output) k.slices_fit).output_port.size_most in
    rw (line_of_lem r.answer r.steps w.m w.output, line_length (number_of r.answer) r.steps w.m.pc w.m.acc w.m.ov words)
    (omega (arith, two_digits (number_of r.answer) (number_below r.answer), five_digits r.steps (omega arith), one_digit w.m.ov (omega (arith, most (ranged w.m k.in_range) "OV")), sent_most w.m w.output, room))

module _ (bytes : List ℕ) (below : Below 256 bytes) where
  accepted_most : read_answer bytes ≡ Done → length (run_line (replay_run (read_contents bytes))) ≤ longest_line
  unfolding replay_run contents_fit
  accepted_most done =
      let c = read_contents bytes in
      let bits = read_sixteen_bits bytes below done in
      let start = replay_starts c (counts_facts _ _ _ (read_within bytes below done)) bits in
      run_line_most (given_of c) _ (runs_in_range (given_of c) c.budget (start_of c) start).world_in_range
      (omega (arith, steps_most (given_of c) c.budget (start_of c), bits.budget))

  refused_most : length (refused_line (read_answer bytes)) ≤ longest_line
  unfolding refused_line parted
  refused_most =
      let n = number_of (read_answer bytes) in
      rw (number_length n 10) (omega (arith, two_digits n (number_below (read_answer bytes))))

pub line_within : LineWithin
unfolding replay_line
line_within bytes below = by (is_done (read_answer bytes)) refl
  where
    by : (t : Bool) → is_done (read_answer bytes) ≡ t → length (cond t (run_line (replay_run (read_contents bytes))) (refused_line (read_answer bytes))) ≤ longest_line
    by true e = accepted_most bytes below (done_is _ e)
    by false e = refused_most bytes below

pub line_whole : LineWhole
unfolding line_in length_in
line_whole bytes lent below room =
    let fits : length (replay_line bytes) ≤ length lent = omega (arith, line_within bytes below) in
    simp (le-leb _ _ fits) (refl, refl)
