use Rattle.line_fields.specs.Writing.{WordsWrote}
use Rattle.line_fields.proofs.numbers.Writer.word_fields.Given as goal

abbrev pub invariant-loop-word : goal.invariant-loop-word
invariant-loop-word l = WordsWrote l.words l.initial.self l.word-index l.self
