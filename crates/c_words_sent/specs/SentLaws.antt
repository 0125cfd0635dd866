-- What the number of a call points at: the words sent are the first of the output slice.
use Rattle.std.specs.Prelude.{◌≡◌, refl, Bool, true, false, List, ℕ, length, take}
use Rattle.std.proofs.Common.{sym}
use Rattle.machine.specs.declared.Machine.{Machine}
use Rattle.answers.specs.Numbers.{is_done}
use Rattle.board.specs.Windows.{words_sent_answer, words_sent}
use Rattle.board.specs.WindowLaws.{sent_length, refused_sent}
use Rattle.c_cells.specs.Cells.{machine_of}
use Rattle.c_cells.specs.Checks.{cells_answer}
use Rattle.c_words_sent.specs.Sent.{sent_called}

sent_words : (m : Machine) (output : List ℕ) → is_done (words_sent_answer m output) ≡ true → words_sent m output ≡ take m.output_cursor output
unfolding words_sent
sent_words m output h = simp h

first_words : (m : Machine) (output : List ℕ) → take (length (words_sent m output)) output ≡ words_sent m output
first_words m output = by (is_done (words_sent_answer m output)) refl
  where
    by : (t : Bool) → is_done (words_sent_answer m output) ≡ t → take (length (words_sent m output)) output ≡ words_sent m output
    by true e = rw (sent_length m output e) (sym (sent_words m output e))
    by false e = rw (refused_sent m output e)

-- "the words sent so far can be asked for as a part of the caller's own slice": the first of output, as many as the call counts
pub sent_are_first : (cells output : List ℕ) → is_done (cells_answer cells) ≡ true → take (sent_called cells output).count output ≡ words_sent (machine_of cells) output
unfolding sent_called
sent_are_first cells output h = simp h (first_words (machine_of cells) output)
