-- Not routine: what the loop keeps is that places and the digits of rest are one more than the digits of n, and that rest + places is at most n + 1, so that places cannot overflow.
use Rattle.line_digits.specs.DigitLaws.{counted_more, counted_all}
use native.Mathlib.Omega.{arith}
use Rattle.line_digits.proofs.decimal_length.Goals as goal

pub loop-rest-preserved : goal.loop-rest-preserved
loop-rest-preserved c = counted_more c.loop-rest.invariant c.loop-rest-test.true

pub returns : goal.returns
returns c = counted_all c.loop-rest.invariant (omega arith)
