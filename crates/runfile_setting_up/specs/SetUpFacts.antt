-- What is known where set-up is done, by name.
use Rattle.std.specs.Prelude.{◌≡◌, true, List, ℕ, length}
use Rattle.answers.specs.Numbers.{is_done}
use Rattle.board.specs.SliceFacts.{MemoriesFit}
use Rattle.runfile.specs.Files.{numbers_of, read_answer}
use Rattle.runfile.specs.Facts.{Accepted}
use Rattle.runfile_setting_up.specs.SetUp.{Lent}

-- set-up from a file is answered by Done
pub record SetUpDone (bytes : List ℕ) (l : Lent) : Type 0 where
  pub file_done : is_done (read_answer bytes) ≡ true
  pub file_accepted : Accepted bytes
  pub memories : MemoriesFit l.rom l.data_memory
  pub input_size : length l.input ≡ (numbers_of bytes).input_count
