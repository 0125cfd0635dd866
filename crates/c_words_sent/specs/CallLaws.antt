-- How the calls of a function make what its contract says.
use Rattle.std.specs.Prelude.{Result, Ok, Err, ◌≡◌, true, false, List, ℕ, length}
use Rattle.machine.specs.declared.Machine.{Machine}
use Rattle.answers.specs.declared.Refusal.{Refusal}
use Rattle.answers.specs.Answers.{Answer}
use Rattle.answers.specs.Numbers.{number_of, is_done}
use Rattle.board.specs.Windows.{words_sent_answer, words_sent}
use Rattle.c_cells.specs.Cells.{machine_of}
use Rattle.c_cells.specs.Checks.{cells_answer}
use Rattle.c_words_sent.specs.Sent.{Counted, counted, sent_called}

-- what the call hands out of a count, or of why there is none
abbrev pub counted_by : Result ℕ Refusal → Counted
counted_by (Ok count) = counted 0 count
counted_by (Err refusal) = counted (number_of (Err refusal)) 0

module _ (cells : List ℕ) where
  -- cells that are refused: their answer's number, and nothing else
  module _ {found : Answer} {n : ℕ} (e : found ≡ cells_answer cells) (h : is_done (cells_answer cells) ≡ false) (k : n ≡ number_of found) where
    pub sent_refused : (o : List ℕ) → counted n 0 ≡ sent_called cells o
    unfolding sent_called
    sent_refused o = simp h (rw (k, e))

  module _ {m : Machine} (h : is_done (cells_answer cells) ≡ true) (e : m ≡ machine_of cells) where
    pub sent_made : (o : List ℕ) {part : List ℕ} {found : Answer} {n : ℕ} → part ≡ words_sent m o → found ≡ words_sent_answer m o → n ≡ number_of found
        → counted n (length part) ≡ sent_called cells o
    unfolding sent_called
    sent_made o p f k = simp h (rw (k, f, p, e))
