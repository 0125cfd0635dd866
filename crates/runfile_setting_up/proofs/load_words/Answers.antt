-- Not routine: what the loop keeps is that the first k words of the run are stored and nothing else has changed, the length included.
use Rattle.runfile_setting_up.proofs.Loops.{loaded_none, loaded_more, loaded_all}
use Rattle.runfile_setting_up.proofs.load_words.Goals as goal

pub loop-k-init : goal.loop-k-init
loop-k-init c = loaded_none _ _ _

pub loop-k-preserved : goal.loop-k-preserved
loop-k-preserved c = loaded_more c.loop-k.invariant _ c.loop-k-test.true (rw c.from.ensures at c.word_at.ensures)

pub returns : goal.returns
returns c = loaded_all c.loop-k.invariant c.loop-k-test.false
