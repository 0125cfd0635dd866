-- The fetch window of a machine in numbers: how many words are meant, and where they stand; or a refusal of the cells.
use Rattle.std.specs.Prelude.{cond, List, ℕ, ◌+◌, ◌-◌, length}
use Rattle.machine.specs.declared.Machine.{Machine}
use Rattle.answers.specs.Numbers.{number_of, is_done}
use Rattle.board.specs.Regions.{in_rom}
use Rattle.board.specs.Windows.{window_answer, window_shown}
use Rattle.c_cells.specs.Cells.{machine_of}
use Rattle.c_cells.specs.Checks.{cells_answer}

-- the place of a window, in numbers
pub record Place : Type 0 where
  pub memory : ℕ
  pub from : ℕ
  pub count : ℕ

-- where a window stands: in no memory on a refusal
abbrev pub no_place : Place
no_place = record { memory = 0; from = 0; count = 0 }

-- "shown in whichever of the two lent memories holds it": 1 is the program memory, 2 the data memory, in which B0 stays at 0200h
unfoldable pub place_of : Machine → ℕ → List ℕ → List ℕ → Place
place_of m address rom data_words =
    cond (is_done (window_answer m address rom data_words))
    (record {
      memory = cond (in_rom address) 1 2;
      from = cond (in_rom address) address (address - 0xFF00 + 0x200);
      count = length (window_shown m address rom data_words);
    })
    no_place

pub record Placed : Type 0 where
  pub answer : ℕ
  pub place : Place

abbrev pub placed : ℕ → ℕ → ℕ → ℕ → Placed
placed answer memory from count =
    record { answer = answer; place = record { memory = memory; from = from; count = count } }

unfoldable pub window_called : List ℕ → ℕ → List ℕ → List ℕ → Placed
window_called cells address rom data_words =
    cond (is_done (cells_answer cells))
    (record { answer = number_of (window_answer (machine_of cells) address rom data_words); place = place_of (machine_of cells) address rom data_words })
    (record { answer = number_of (cells_answer cells); place = no_place })
