-- The words sent of a machine in numbers: how many are meant; or a refusal of the cells.
use Rattle.std.specs.Prelude.{cond, List, ℕ, length}
use Rattle.answers.specs.Numbers.{number_of, is_done}
use Rattle.board.specs.Windows.{words_sent_answer, words_sent}
use Rattle.c_cells.specs.Cells.{machine_of}
use Rattle.c_cells.specs.Checks.{cells_answer}

-- an answer, and how many words are meant
pub record Counted : Type 0 where
  pub answer : ℕ
  pub count : ℕ

abbrev pub counted : ℕ → ℕ → Counted
counted answer count = record { answer = answer; count = count }

unfoldable pub sent_called : List ℕ → List ℕ → Counted
sent_called cells output =
    cond (is_done (cells_answer cells))
    (counted (number_of (words_sent_answer (machine_of cells) output)) (length (words_sent (machine_of cells) output)))
    (counted (number_of (cells_answer cells)) 0)
