-- Not routine: what the loop keeps is that the bytes of the first k words are stored and nothing else has changed, the length included.
use Rattle.runfile_writing.proofs.Loops.{put_none, put_more}
use Rattle.runfile_writing.proofs.put_words.Goals as goal

pub loop-k-init : goal.loop-k-init
loop-k-init c = put_none _ _ _

pub loop-k-preserved : goal.loop-k-preserved
loop-k-preserved c = put_more c.loop-k.invariant _ c.loop-k-test.true c.put_word.ensures
