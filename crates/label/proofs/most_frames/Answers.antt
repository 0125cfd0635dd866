-- Not routine: that 127 frames or fewer never overflow is demand 3; that 128 can is shown by one computed run, with all words -32768.
use Rattle.stacking_cases.specs.LabelLaws.{most_127}
use Rattle.label.proofs.most_frames.Goals as goal

pub returns : goal.returns
returns c = most_127
