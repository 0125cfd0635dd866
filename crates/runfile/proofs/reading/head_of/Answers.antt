-- Not routine: each section is read with as many words as its count in the head says, so that the eight numbers alone give the lengths.
use Rattle.runfile.specs.FileLaws.{head_given}
use Rattle.runfile.proofs.reading.head_of.Goals as goal

pub returns : goal.returns
returns c = head_given _ _ (rw c.read.ensures at c.map_or.ensures)
