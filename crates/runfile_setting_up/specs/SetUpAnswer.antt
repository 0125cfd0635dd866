-- What setting up lent memories and an input slice from a run file answers.
use Rattle.std.specs.Prelude.{Bool, cond, ◌&&◌, List, ℕ, eqb, length}
use Rattle.answers.specs.Answers.{Answer}
use Rattle.answers.specs.Answers.{Done, SlicesUnfit}
use Rattle.answers.specs.Numbers.{is_done}
use Rattle.board.specs.Slices.{memories_fit}
use Rattle.runfile.specs.Files.{Contents, read_answer, read_contents}

-- the lent slices
pub record Lent : Type 0 where
  pub rom : List ℕ
  pub data_memory : List ℕ
  pub input : List ℕ

abbrev pub lent : List ℕ → List ℕ → List ℕ → Lent
lent rom data_memory input = record { rom = rom; data_memory = data_memory; input = input }

-- "program or data slice is not 4,096 words, .. or at set-up from a file the input slice is not of its count" is where this test fails
unfoldable pub lent_fit : Contents → Lent → Bool
lent_fit c l = memories_fit l.rom l.data_memory && eqb (length l.input) (length c.input)

-- "Files: 20, 21, 22 in order, then 2 for lent memories that are set up from one"
unfoldable pub set_up_answer : List ℕ → Lent → Answer
set_up_answer bytes l =
    cond (is_done (read_answer bytes))
    (cond (lent_fit (read_contents bytes) l) Done
    SlicesUnfit)
    (read_answer bytes)
