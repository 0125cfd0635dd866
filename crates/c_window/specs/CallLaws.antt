-- How the calls of each function make what its contract says.
use Rattle.std.specs.Prelude.{Result, Ok, Err, ◌≡◌, true, false, List, ℕ, ◌+◌, ◌-◌, ◌≤◌, length}
use Rattle.std.proofs.Common.{ap}
use Rattle.machine.specs.declared.Machine.{Machine}
use Rattle.answers.specs.declared.Refusal.{Refusal}
use Rattle.answers.specs.Answers.{Answer}
use Rattle.answers.specs.Numbers.{number_of, is_done}
use Rattle.board.specs.Regions.{in_rom, program_present}
use Rattle.board.specs.RegionLaws.{program_b0}
use Rattle.board.specs.Windows.{window_answer, window_shown}
use Rattle.board.specs.WindowLaws.{window_done}
use Rattle.c_cells.specs.Cells.{machine_of}
use Rattle.c_cells.specs.Checks.{cells_answer}
use Rattle.c_window.specs.declared.window.Memory.{Memory}
use Rattle.c_window.specs.declared.window.Memory.TheVariants.{Program, Data}
use Rattle.c_window.specs.declared.window.Place
use Rattle.c_window.specs.Shown.{Place, place_of, Placed, placed, window_called}

-- the number of a memory
abbrev pub memory_number : Memory → ℕ
memory_number Program = 1
memory_number Data = 2

-- what the call hands out of a place, or of why there is none
abbrev pub placed_by : Result Rattle.c_window.specs.declared.window.Place.Place Refusal → Placed
placed_by (Ok p) = placed 0 (memory_number p.memory) p.from p.count
placed_by (Err refusal) = placed (number_of (Err refusal)) 0 0 0

-- what it hands out of a machine
abbrev pub window_placed : Machine → ℕ → List ℕ → List ℕ → Placed
window_placed m address rom data_words = record { answer = number_of (window_answer m address rom data_words); place = place_of m address rom data_words }

module _ (cells : List ℕ) where
  -- cells that are refused: their answer's number, and nothing else
  module _ {found : Answer} {n : ℕ} (e : found ≡ cells_answer cells) (h : is_done (cells_answer cells) ≡ false) (k : n ≡ number_of found) where
    pub window_refused : (rom d : List ℕ) (address : ℕ) → placed n 0 0 0 ≡ window_called cells address rom d
    unfolding window_called
    window_refused rom d address = simp h (rw (k, e))

  module _ {m : Machine} (h : is_done (cells_answer cells) ≡ true) (e : m ≡ machine_of cells) where
    pub window_made : (rom d : List ℕ) (address : ℕ) (p : Place) {found : Answer} {n : ℕ} → p ≡ place_of m address rom d → found ≡ window_answer m address rom d
        → n ≡ number_of found → placed n p.memory p.from p.count ≡ window_called cells address rom d
    unfolding window_called
    window_made rom d address p {found} {n} q f k =
        simp h (rw (k, f, ← e) (ap (λ (x : Place). placed (number_of (window_answer m address rom d)) x.memory x.from x.count) q))

-- ---- where a window stands

module _ (m : Machine) (address : ℕ) (rom d : List ℕ) where
  pub no_place : is_done (window_answer m address rom d) ≡ false → record { memory = 0; from = 0; count = 0 } ≡ place_of m address rom d
  unfolding place_of
  no_place h = simp h

  module _ (h : is_done (window_answer m address rom d) ≡ true) where
    -- an address that is there and not in ROM is in B0
    pub past_rom : in_rom address ≡ false → 0xFF00 ≤ address
    unfolding program_present
    past_rom r = (program_b0 m.cnf address (simp r at (window_done m address rom d h).is_present)).first

    module _ {n : ℕ} (e : n ≡ length (window_shown m address rom d)) where
      pub rom_place : in_rom address ≡ true → record { memory = 1; from = address; count = n } ≡ place_of m address rom d
      unfolding place_of
      rom_place r = simp (h, r) (rw e)

      pub data_place : in_rom address ≡ false → record { memory = 2; from = address - 0xFF00 + 0x200; count = n } ≡ place_of m address rom d
      unfolding place_of
      data_place r = simp (h, r) (rw e)
