-- Setting up lent memories and an input slice from a run file.
use Rattle.std.specs.Prelude.{cond, List, ◌++◌, ℕ, ◌+◌, ◌-◌, length, replicate}
use Rattle.answers.specs.Numbers.{is_done}
use Rattle.runfile.specs.Files.{Contents, read_contents}
pub use Rattle.runfile_setting_up.specs.SetUpAnswer.{Lent, lent}
unfoldable pub use Rattle.runfile_setting_up.specs.SetUpAnswer.{lent_fit, set_up_answer}

-- a memory of 4,096 words with these from an address on; every other word is 0, at absent addresses too (ruling R33)
unfoldable pub memory_with : ℕ → List ℕ → List ℕ
memory_with address words = replicate address 0 ++ (words ++ replicate (4096 - (address + length words)) 0)

-- "Data go to 0400h onward; other words of both memories are 0."
unfoldable pub loaded : Contents → Lent
loaded c =
    record { rom = memory_with 0 c.program; data_memory = memory_with 0x400 c.data_words; input = c.input }

-- "A refused file .. changes no lent memory"
unfoldable pub set_up : List ℕ → Lent → Lent
set_up bytes l = cond (is_done (set_up_answer bytes l)) (loaded (read_contents bytes)) l
