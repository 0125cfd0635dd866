-- Not routine: what the loop keeps is that the first words stand as fields; each takes 5 bytes, so that room for all leaves room for the next.
use Rattle.line_fields.specs.Writing.{no_words, one_more_word}
use Rattle.line_fields.proofs.numbers.Writer.word_fields.Goals as goal

pub loop-word-init : goal.loop-word-init
loop-word-init c = no_words _ _

pub loop-word-preserved : goal.loop-word-preserved
loop-word-preserved c = one_more_word c.loop-word.invariant c.loop-word-test.true (rw c.from.ensures at c.word_field.ensures)
