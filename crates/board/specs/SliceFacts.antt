-- What is known where a test holds: the facts behind the tests, by name.
use Rattle.std.specs.Prelude.{◌≡◌, List, ℕ, ◌≤◌, length}
use Rattle.machine.specs.declared.Machine.{Machine}

-- check 2 holds: over the two memories, over a port, over all
pub record MemoriesFit (rom d : List ℕ) : Type 0 where
  pub rom_size : length rom ≡ 4096
  pub data_size : length d ≡ 4096

pub record PortFits (size cursor : ℕ) : Type 0 where
  pub size_most : size ≤ 1024
  pub not_past : cursor ≤ size

pub record SlicesFit (m : Machine) (rom d input : List ℕ) (output_length : ℕ) : Type 0 where
  pub memories : MemoriesFit rom d
  pub input_port : PortFits (length input) m.input_cursor
  pub output_port : PortFits output_length m.output_cursor
