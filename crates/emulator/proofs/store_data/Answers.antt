-- Not routine: 128 times the page plus the offset is the address again, so that the store through the data page is the one at the address.
use mathlib.Core.Path.{◌∙◌}
use Rattle.board.specs.SliceLaws.{address_set}
use Rattle.emulator.proofs.store_data.Goals as goal

pub returns : goal.returns
returns c = c.store_word.ensures ∙ address_set _ _ _ c.requires.0 c.requires.1
