-- Not routine: bounds cut down to the slice give the same part as those asked for, and it begins where the definition says.
use Rattle.board.specs.SliceLaws.{part_shown, part_begins}
use Rattle.slices.proofs.part.Goals as goal

pub returns : goal.returns
returns c = let a = c.args in record { result_value = part_shown a.from a.to a.words.now _ _ c.min-end.ensures c.min-start.ensures; ref_ptr_value = part_begins a.from a.to a.words _ _ c.min-end.ensures c.min-start.ensures }
