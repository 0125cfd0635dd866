-- Not routine: the sum so far and the rest still make the whole sum.
use Rattle.registers.specs.CarryLaws.{adding_goes_on}
use Rattle.registers.proofs.reversed_sum.Goals as goal

pub loop-rest-preserved : goal.loop-rest-preserved
loop-rest-preserved c = adding_goes_on _ _ _ _ c.loop-rest.invariant
