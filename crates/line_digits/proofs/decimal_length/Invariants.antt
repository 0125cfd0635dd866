use Rattle.line_digits.specs.DigitLaws.{DigitsCounted}
use Rattle.line_digits.proofs.decimal_length.Given as goal

abbrev pub invariant-loop-rest : goal.invariant-loop-rest
invariant-loop-rest l = DigitsCounted l.n l.rest l.places

abbrev pub decreases-loop-rest : goal.decreases-loop-rest
decreases-loop-rest l = l.rest
