use Rattle.runfile_writing.proofs.Loops.{Put}
use Rattle.runfile_writing.proofs.put_words.Given as goal

abbrev pub invariant-loop-k : goal.invariant-loop-k
invariant-loop-k l = Put l.words l.at l.initial.bytes l.bytes l.k
