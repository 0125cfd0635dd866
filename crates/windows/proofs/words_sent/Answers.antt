-- Not routine: Done as the answer means that the cursor is not past the slice, so that the part up to it has as many words as the cursor says.
use mathlib.Core.Path.{sym, ap, ◌∙◌}
use Rattle.answers.specs.Numbers.{is_done}
use lib.Seq.{length-take-le}
use Rattle.board.specs.WindowLaws.{sent_done}
use Rattle.windows.proofs.words_sent.Goals as goal

pub slice_bounds-result-end : goal.slice_bounds-result-end
slice_bounds-result-end c = rw c.from-sent.ensures (sym (length-take-le _ _ (sent_done _ _ (ap is_done (sym c.words_sent_answer.ensures) ∙ (sym c.is_ok.ensures.value ∙ c.if-is_ok.true))).port.not_past))
