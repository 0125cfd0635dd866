-- What is known where a test holds: the facts behind the tests, by name.
use Rattle.std.specs.Prelude.{◌≡◌, true, List, ℕ, length}
use Rattle.machine.specs.declared.Machine.{Machine}
use Rattle.machine.specs.Range.{in_range}
use Rattle.board.specs.Regions.{program_present}
use Rattle.board.specs.Slices.{memories_fit}
use Rattle.board.specs.SliceFacts.{PortFits}

-- asking for a window, or for the words sent, is answered by Done
pub record WindowDone (m : Machine) (a : ℕ) (rom d : List ℕ) : Type 0 where
  pub in_range : in_range m ≡ true
  pub memories : memories_fit rom d ≡ true
  pub is_present : program_present m.cnf a ≡ true

pub record SentDone (m : Machine) (output : List ℕ) : Type 0 where
  pub in_range : in_range m ≡ true
  pub port : PortFits (length output) m.output_cursor
