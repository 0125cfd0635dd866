-- Not routine: eight hexadecimal digits are the four of n / 65,536 and the last four, which `four` takes from n itself.
use Rattle.line_fields.specs.Writing.{wrote_then, fits_first, fits_then}
use Rattle.line_digits.specs.DigitLaws.{eight_digits}
use Rattle.line_digits.specs.Digits.{hexadecimal}
use Rattle.line_fields.proofs.numbers.Writer.long_field.Goals as goal

pub word_field-requires : goal.word_field-requires
word_field-requires c = fits_first _ (hexadecimal 4 c.args.n) (rw eight_digits at c.requires)

pub four-requires : goal.four-requires
four-requires c = fits_then c.word_field.ensures _ (rw eight_digits at c.requires)

pub returns : goal.returns
returns c = rw eight_digits (wrote_then c.word_field.ensures c.four.ensures)
