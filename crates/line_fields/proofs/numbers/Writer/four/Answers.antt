-- Not routine: the text of four digits has four bytes, so that there is room for each byte where the one before it ended.
use Rattle.line_fields.specs.Writing.{wrote_none, wrote_then, four_fits, four_wrote}
use Rattle.std.proofs.Common.{arith}
use Rattle.line_fields.proofs.numbers.Writer.four.Goals as goal

pub byte-requires : goal.byte-requires
byte-requires c = four_fits c.args.n _ (wrote_none _) (omega arith) c.requires

pub byte-requires-2 : goal.byte-requires-2
byte-requires-2 c = four_fits c.args.n _ c.byte.ensures (omega arith) c.requires

pub byte-requires-3 : goal.byte-requires-3
byte-requires-3 c = four_fits c.args.n _ (wrote_then c.byte.ensures c.byte-2.ensures) (omega arith) c.requires

pub byte-requires-4 : goal.byte-requires-4
byte-requires-4 c = four_fits c.args.n _ (wrote_then (wrote_then c.byte.ensures c.byte-2.ensures) c.byte-3.ensures) (omega arith) c.requires

pub returns : goal.returns
returns c = four_wrote _
    c.digit.ensures
    c.digit-2.ensures
    c.digit-3.ensures
    c.digit-4.ensures
    c.byte.ensures
    c.byte-2.ensures
    c.byte-3.ensures
    c.byte-4.ensures
