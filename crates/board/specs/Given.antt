-- What a call is given and does not change.
use Rattle.std.specs.Prelude.{List, ℕ}

-- the words of the ROM, and those of input port 0
pub record Given : Type 0 where
  pub rom : List ℕ
  pub input : List ℕ

abbrev pub given : List ℕ → List ℕ → Given
given rom input = record { rom = rom; input = input }
