-- Not routine: a number n has at most n + 1 decimal digits, so that the length with the byte that ends the line cannot overflow.
use Rattle.std.proofs.Common.{arith, rules}
use Rattle.line_digits.specs.DigitLaws.{decimal_most}
use Rattle.line_fields.specs.PlacingLaws.{number_length, line_kept, line_done, put_length}
use Rattle.line_fields.specs.Writing.{wrote_then, line_wrote}
use Rattle.line_fields.proofs.fitting.fit_number.Goals as goal

pub overflow_add-decimal_length : goal.overflow_add-decimal_length
overflow_add-decimal_length c = omega (arith, decimal_most c.args.n, c.decimal_length.ensures)

pub returns-then-bytes-decimal_length : goal.returns-then-bytes-decimal_length
returns-then-bytes-decimal_length c = line_kept _ _ (omega (arith, number_length c.args.n c.args.end, c.decimal_length.ensures, c.if-bytes-decimal_length.true))

pub byte-requires : goal.byte-requires
byte-requires c = record { room = record { fits = omega (arith, number_length c.args.n c.args.end, c.decimal_length.ensures, c.if-bytes-decimal_length.false, c.decimal.ensures.put.ends, put_length c.decimal.ensures.put) } }

pub returns : goal.returns
returns c = line_wrote c.byte.new.self _ _ (line_done _ _
    (omega (
      arith,
      number_length
          c.args.n
          c.args.end,
      c.decimal_length.ensures,
      c.if-bytes-decimal_length.false,
    ))
    (wrote_then c.decimal.ensures c.byte.ensures).put) (search rules)
