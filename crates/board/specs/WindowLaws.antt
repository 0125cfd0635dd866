-- The window is not empty exactly where its answer is Done, and its first word is the program word; the words sent are the first words of the output slice.
use Rattle.std.specs.Prelude.{◌≡◌, Bool, ◌||◌, ℕ, ◌+◌, ◌-◌, ◌<◌, take, get_or}
use Rattle.std.proofs.Math.Path.{refl, sym}
use Rattle.std.proofs.Common.{◌∙◌, length-take-le, get_or-take, get_or-drop, le-ltb}
use Rattle.std.proofs.Math.Bool.{true, false, cond}
use Rattle.std.proofs.lemmas.Bool.{false≢true}
use mathlib.Core.List.{List, []}
use native.Mathlib.Omega.{arith}
use Rattle.std.proofs.Math.ListN.{length}
use Rattle.std.proofs.Math.Seq.{slice, length-slice}
use Rattle.machine.specs.declared.Machine.{Machine}
use Rattle.machine.specs.Range.{in_range}
use Rattle.answers.specs.Answers.{Answer}
use Rattle.answers.specs.Answers.{Done, CellOutOfRange, SlicesUnfit, ProgramAbsent}
use Rattle.answers.specs.Numbers.{is_done}
use Rattle.board.specs.Regions.{in_rom, in_program_b0, program_present}
use Rattle.board.specs.Slices.{memories_fit, port_fits}
use Rattle.board.specs.Windows.{window_of, program_word, window_answer, window_shown, words_sent_answer, words_sent}
use Rattle.board.specs.RegionLaws.{rom_below, program_b0}
use Rattle.board.specs.SliceLaws.{memories_fit_lem, port_fits_lem}
use Rattle.board.specs.RegionFacts.{InProgramB0}
use Rattle.board.specs.SliceFacts.{MemoriesFit}
use Rattle.board.specs.WindowFacts.{WindowDone, SentDone}

-- ---- the window of an address

part_first : (f t : ℕ) (l : List ℕ) → f < t → get_or (slice f t l) 0 0 ≡ get_or l f 0
part_first f t l h =
    let same : f + 0 ≡ f = omega arith in
    get_or-drop f (take t l) 0 0 ∙ rw (same, get_or-take t l f 0 h)

not_rom : (cnf a : ℕ) → InProgramB0 cnf a → in_rom a ≡ false
unfolding in_rom
not_rom cnf a b = le-ltb a 4096 (omega arith)

module _ (cnf a : ℕ) (rom d : List ℕ) where
  -- the program word is the word of the memory that holds it
  pub rom_word : in_rom a ≡ true → program_word cnf a rom d ≡ get_or rom a 0
  unfolding program_word window_of
  rom_word h = simp h (part_first a 0x1000 rom (rom_below a h))

  pub b0_word : in_program_b0 cnf a ≡ true → program_word cnf a rom d ≡ get_or d (a - 0xFF00 + 0x200) 0
  unfolding program_word window_of
  b0_word h =
      let b = program_b0 cnf a h in
      simp (not_rom cnf a b, h) (part_first (a - 0xFF00 + 0x200) 0x300 d (omega arith))

  -- to the end of its region
  pub rom_window_length : length rom ≡ 4096 → in_rom a ≡ true → length (window_of cnf a rom d) ≡ 4096 - a
  unfolding window_of
  rom_window_length size h = simp h (length-slice a 0x1000 rom (omega arith))

  pub b0_window_length : length d ≡ 4096 → in_program_b0 cnf a ≡ true → length (window_of cnf a rom d) ≡ 0x10000 - a
  unfolding window_of
  b0_window_length size h =
      let b = program_b0 cnf a h in
      let e : 0x300 - (a - 0xFF00 + 0x200) ≡ 0x10000 - a = omega arith in
      simp (not_rom cnf a b, h) (length-slice (a - 0xFF00 + 0x200) 0x300 d (omega arith) ∙ e)

  pub absent_window : program_present cnf a ≡ false → window_of cnf a rom d ≡ []
  unfolding program_present window_of
  absent_window h = by (in_rom a) (in_program_b0 cnf a) _ _ h
    where
      by : (r b : Bool) (x y : List ℕ) → r || b ≡ false → cond r x (cond b y []) ≡ []
      by true b x y e = absurd (false≢true (sym e))
      by false true x y e = absurd (false≢true (sym e))
      by false false x y e = refl

  pub present_window : MemoriesFit rom d → program_present cnf a ≡ true → 0 < length (window_of cnf a rom d)
  unfolding program_present
  present_window fit h = by (in_rom a) (in_program_b0 cnf a) refl refl h
    where
      by : (r b : Bool) → in_rom a ≡ r → in_program_b0 cnf a ≡ b → r || b ≡ true → 0 < length (window_of cnf a rom d)
      by true b er eb e = let l = rom_below a er in rw (rom_window_length fit.rom_size er) (omega arith)
      by false true er eb e = let l = program_b0 cnf a eb in rw (b0_window_length fit.data_size eb) (omega arith)
      by false false er eb e = absurd (false≢true e)

-- ---- what a caller is shown

-- Done is answered only where every check of a nest holds
check_holds : (t : Bool) (next refusal : Answer) → is_done refusal ≡ false → is_done (cond t next refusal) ≡ true → (t ≡ true) × (is_done next ≡ true)
check_holds true next refusal n h = (refl, h)
check_holds false next refusal n h = absurd (false≢true (sym n ∙ h))

module _ (m : Machine) (a : ℕ) (rom d : List ℕ) where
  pub window_done : is_done (window_answer m a rom d) ≡ true → WindowDone m a rom d
  unfolding window_answer
  window_done h =
      let one = check_holds (in_range m) _ CellOutOfRange refl h in
      let two = check_holds (memories_fit rom d) _ SlicesUnfit refl one.1 in
      let five = check_holds (program_present m.cnf a) Done ProgramAbsent refl two.1 in
      record { in_range = one.0; memories = two.0; is_present = five.0 }

  -- the window is not empty exactly where its answer is Done
  pub done_shows : is_done (window_answer m a rom d) ≡ true → 0 < length (window_shown m a rom d)
  unfolding window_shown
  done_shows h =
      let w = window_done h in
      simp h (present_window m.cnf a rom d (memories_fit_lem rom d w.memories) w.is_present)

  pub refused_empty : is_done (window_answer m a rom d) ≡ false → window_shown m a rom d ≡ []
  unfolding window_shown
  refused_empty h = simp h

  -- past checks 1 and 2 it is the window of the address, empty where that is absent
  pub checked_window : in_range m ≡ true → memories_fit rom d ≡ true → window_shown m a rom d ≡ window_of m.cnf a rom d
  unfolding window_shown window_answer
  checked_window one two = simp (one, two) (by (program_present m.cnf a) _ (absent_window m.cnf a rom d))
    where
      by : (p : Bool) (w : List ℕ) → (p ≡ false → w ≡ []) → cond (is_done (cond p Done ProgramAbsent)) w [] ≡ w
      by true w f = refl
      by false w f = sym (f refl)

module _ (m : Machine) (output : List ℕ) where
  pub sent_done : is_done (words_sent_answer m output) ≡ true → SentDone m output
  unfolding words_sent_answer
  sent_done h =
      let one = check_holds (in_range m) _ CellOutOfRange refl h in
      let two = check_holds (port_fits (length output) m.output_cursor) Done SlicesUnfit refl one.1 in
      record { in_range = one.0; port = port_fits_lem _ _ two.0 }

  -- as many words as the cursor says
  pub sent_length : is_done (words_sent_answer m output) ≡ true → length (words_sent m output) ≡ m.output_cursor
  unfolding words_sent
  sent_length h = simp h (length-take-le m.output_cursor output (sent_done h).port.not_past)

  pub refused_sent : is_done (words_sent_answer m output) ≡ false → words_sent m output ≡ []
  unfolding words_sent
  refused_sent h = simp h
