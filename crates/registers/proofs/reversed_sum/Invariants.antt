use Rattle.registers.specs.CarryLaws.{Adding}
use Rattle.registers.proofs.reversed_sum.Given as goal

abbrev pub invariant-loop-rest : goal.invariant-loop-rest
invariant-loop-rest l = Adding l.a l.b l.sum l.rest

abbrev pub decreases-loop-rest : goal.decreases-loop-rest
decreases-loop-rest l = l.rest
