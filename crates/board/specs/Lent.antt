-- What a step is lent, as its plan sees it: a plan reads the words that are given and the data, and asks of the output slice no more than its length. Beside
-- the words of each slice stands where it begins (`part_start`).
use Rattle.std.specs.Prelude.{List, ℕ}
use Rattle.board.specs.Given.{Given}

pub record LentWords : Type 0 where
  pub given : Given
  pub «data» : List ℕ
  pub output_length : ℕ
  pub rom_start : ℕ × ℕ
  pub data_start : ℕ × ℕ
  pub input_start : ℕ × ℕ
