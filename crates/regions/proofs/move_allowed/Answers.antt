-- Not routine: an address on chip is below 1,024, so that from 0400h on there is no next one on chip.
use native.Mathlib.Omega.{arith}
use mathlib.Core.Path.{◌∙◌, ap}
use mathlib.Core.Bool.{not}
use Rattle.board.specs.RegionLaws.{no_move, next_asked}
use Rattle.regions.proofs.move_allowed.Goals as goal

pub returns-then-not-region_on_chip-address : goal.returns-then-not-region_on_chip-address
returns-then-not-region_on_chip-address c = no_move _ _ _ _ c.region_on_chip.ensures (ap not c.if-not-region_on_chip-address.true)

pub overflow_add-address : goal.overflow_add-address
overflow_add-address c = omega (arith, (next_asked c.args.region c.args.cnf c.args.address _ c.region_on_chip.ensures (ap not c.if-not-region_on_chip-address.false)).0)

pub returns : goal.returns
returns c = c.on_chip.ensures ∙ (next_asked _ _ _ _ c.region_on_chip.ensures (ap not c.if-not-region_on_chip-address.false)).1
