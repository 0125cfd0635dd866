-- Not routine: the recursion ends because n / 10 is less than n from 10 on; the digits of n are those of n / 10 and one more.
use Rattle.line_fields.specs.Writing.{one_fits, one_wrote, last_fits, last_wrote}
use Rattle.line_fields.proofs.numbers.Writer.+decimal.Goals as goal

pub byte-requires : goal.byte-requires
byte-requires t c = one_fits _ _ c.if-n-lt10.true c.requires

pub returns-then-n-lt10 : goal.returns-then-n-lt10
returns-then-n-lt10 t c = one_wrote _ c.if-n-lt10.true c.digit.ensures c.byte.ensures

pub byte-requires-2 : goal.byte-requires-2
byte-requires-2 t c = last_fits _ c.if-n-lt10.false c.decimal.ensures _ c.requires

pub returns : goal.returns
returns t c = last_wrote _ c.if-n-lt10.false c.decimal.ensures c.digit-2.ensures c.byte-2.ensures
