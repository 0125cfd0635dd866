use Rattle.runfile_setting_up.proofs.Loops.{Loaded}
use Rattle.runfile_setting_up.proofs.load_words.Given as goal

abbrev pub invariant-loop-k : goal.invariant-loop-k
invariant-loop-k l = Loaded l.bytes l.at l.initial.words l.words l.k
