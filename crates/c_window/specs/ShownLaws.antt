-- What the numbers of a call point at: the place of a window holds the window.
use Rattle.std.specs.Prelude.{◌≡◌, Bool, cond, List, [], ℕ, ◌+◌, ◌-◌, eqb}
use Rattle.std.proofs.Math.Path.{refl}
use Rattle.std.proofs.Common.{sym}
use Rattle.std.proofs.Math.Bool.{true, false}
use native.Mathlib.Omega.{arith}
use Rattle.std.proofs.Math.Seq.{slice}
use Rattle.machine.specs.declared.Machine.{Machine}
use Rattle.answers.specs.Numbers.{is_done}
use Rattle.board.specs.Regions.{in_rom, in_program_b0, program_present}
use Rattle.board.specs.RegionLaws.{rom_below, program_b0}
use Rattle.board.specs.SliceLaws.{memories_fit_lem}
use Rattle.board.specs.Windows.{window_of, window_answer, window_shown}
use Rattle.board.specs.WindowLaws.{window_done, rom_window_length, b0_window_length}
use Rattle.c_window.specs.Shown.{Place, place_of}

-- the words at a place
unfoldable pub words_in : Place → List ℕ → List ℕ → List ℕ
words_in p rom data_words =
    cond (eqb p.memory 1) (slice p.from (p.from + p.count) rom)
    (cond (eqb p.memory 2) (slice p.from (p.from + p.count) data_words)
    [])

module _ (m : Machine) (address : ℕ) (rom d : List ℕ) where
  shown_window : is_done (window_answer m address rom d) ≡ true → window_shown m address rom d ≡ window_of m.cnf address rom d
  unfolding window_shown
  shown_window h = simp h

  rom_window : in_rom address ≡ true → window_of m.cnf address rom d ≡ slice address 0x1000 rom
  unfolding window_of
  rom_window r = simp r

  data_window : in_rom address ≡ false → in_program_b0 m.cnf address ≡ true → window_of m.cnf address rom d ≡ slice (address - 0xFF00 + 0x200) 0x300 d
  unfolding window_of
  data_window r b = simp (r, b)

  module _ (h : is_done (window_answer m address rom d) ≡ true) where
    rom_shows : in_rom address ≡ true → words_in (place_of m address rom d) rom d ≡ window_shown m address rom d
    unfolding words_in place_of
    rom_shows r =
        let fit = memories_fit_lem rom d (window_done m address rom d h).memories in
        let below = rom_below address r in
        let end : address + (4096 - address) ≡ 4096 = omega arith in
        simp (h, r) (rw (shown_window h, rom_window_length m.cnf address rom d fit.rom_size r, end) (sym (rom_window r)))

    data_shows : in_rom address ≡ false → in_program_b0 m.cnf address ≡ true → words_in (place_of m address rom d) rom d ≡ window_shown m address rom d
    unfolding words_in place_of
    data_shows r b =
        let fit = memories_fit_lem rom d (window_done m address rom d h).memories in
        let there = program_b0 m.cnf address b in
        let end : address - 0xFF00 + 0x200 + (0x10000 - address) ≡ 0x300 = omega arith in
        simp (h, r) (rw (shown_window h, b0_window_length m.cnf address rom d fit.data_size b, end) (sym (data_window r b)))

    done_shows : words_in (place_of m address rom d) rom d ≡ window_shown m address rom d
    unfolding program_present
    done_shows = by (in_rom address) refl
      where
        by : (t : Bool) → in_rom address ≡ t → words_in (place_of m address rom d) rom d ≡ window_shown m address rom d
        by true r = rom_shows r
        by false r = data_shows r (simp r at (window_done m address rom d h).is_present)

  none_shows : is_done (window_answer m address rom d) ≡ false → words_in (place_of m address rom d) rom d ≡ window_shown m address rom d
  unfolding words_in place_of window_shown
  none_shows h = simp h

  -- "shown in whichever of the two lent memories holds it, without copying": the place of a window holds it, and on a refusal nothing
  pub place_shows : words_in (place_of m address rom d) rom d ≡ window_shown m address rom d
  place_shows = by (is_done (window_answer m address rom d)) refl
    where
      by : (t : Bool) → is_done (window_answer m address rom d) ≡ t → words_in (place_of m address rom d) rom d ≡ window_shown m address rom d
      by true h = done_shows h
      by false h = none_shows h
