-- One possible result of each exported function: the arithmetic of words.
use Rattle.words.proofs.bits.high_half.Reads as HighHalf
use Rattle.words.proofs.bits.low_half.Reads as LowHalf
use Rattle.words.proofs.bits.from_halves.Reads as FromHalves
use Rattle.words.proofs.bits.sign_extended.Reads as SignExtended
use Rattle.words.proofs.logic.and_low.Reads as AndLow
use Rattle.words.proofs.logic.or_low.Reads as OrLow
use Rattle.words.proofs.logic.xor_low.Reads as XorLow
use Rattle.words.proofs.logic.complement.Reads as Complement
use Rattle.registers.proofs.wrapped_sum.Reads as WrappedSum
use Rattle.registers.proofs.wrapped_difference.Reads as WrappedDifference
use Rattle.registers.proofs.reversed_sum.Reads as ReversedSum
use Rattle.registers.proofs.reversed_difference.Reads as ReversedDifference
use Rattle.sums.proofs.add.Reads as Add
use Rattle.sums.proofs.subtract.Reads as Subtract
use Rattle.sums.proofs.in_high_half.Reads as InHighHalf
use Rattle.sums.proofs.add_high.Reads as AddHigh
use Rattle.sums.proofs.subtract_high.Reads as SubtractHigh
use Rattle.sums.proofs.subtract_conditionally.Reads as SubtractConditionally
use Rattle.sums.proofs.negate.Reads as Negate
use Rattle.sums.proofs.absolute_value.Reads as AbsoluteValue
use Rattle.products.proofs.product.Reads as Product
use Rattle.products.proofs.long_constant.Reads as LongConstant
use Rattle.products.proofs.shift_product.Reads as ShiftProduct
use Rattle.products.proofs.product_high.Reads as ProductHigh
use Rattle.products.proofs.product_low.Reads as ProductLow
use Rattle.shifts.proofs.operand_of.Reads as OperandOf
use Rattle.shifts.proofs.unsigned_operand.Reads as UnsignedOperand
use Rattle.shifts.proofs.stored_low.Reads as StoredLow
use Rattle.shifts.proofs.stored_high.Reads as StoredHigh
use Rattle.shifts.proofs.left_by_one.Reads as LeftByOne
use Rattle.shifts.proofs.right_by_one.Reads as RightByOne
use Rattle.one_result.specs.One.{OneResult, same}

pub high_half : OneResult HighHalf.Post
high_half κs a r r' e e' p q = same p q

pub low_half : OneResult LowHalf.Post
low_half κs a r r' e e' p q = same p q

pub from_halves : OneResult FromHalves.Post
from_halves κs a r r' e e' p q = same p q

pub sign_extended : OneResult SignExtended.Post
sign_extended κs a r r' e e' p q = same p q

pub and_low : OneResult AndLow.Post
and_low κs a r r' e e' p q = same p q

pub or_low : OneResult OrLow.Post
or_low κs a r r' e e' p q = same p q

pub xor_low : OneResult XorLow.Post
xor_low κs a r r' e e' p q = same p q

pub complement : OneResult Complement.Post
complement κs a r r' e e' p q = same p q

pub wrapped_sum : OneResult WrappedSum.Post
wrapped_sum κs a r r' e e' p q = same p q

pub wrapped_difference : OneResult WrappedDifference.Post
wrapped_difference κs a r r' e e' p q = same p q

pub reversed_sum : OneResult ReversedSum.Post
reversed_sum κs a r r' e e' p q = same p q

pub reversed_difference : OneResult ReversedDifference.Post
reversed_difference κs a r r' e e' p q = same p q

pub add : OneResult Add.Post
add κs a r r' e e' p q = same p q

pub subtract : OneResult Subtract.Post
subtract κs a r r' e e' p q = same p q

pub in_high_half : OneResult InHighHalf.Post
in_high_half κs a r r' e e' p q = same p q

pub add_high : OneResult AddHigh.Post
add_high κs a r r' e e' p q = same p q

pub subtract_high : OneResult SubtractHigh.Post
subtract_high κs a r r' e e' p q = same p q

pub subtract_conditionally : OneResult SubtractConditionally.Post
subtract_conditionally κs a r r' e e' p q = same p q

pub negate : OneResult Negate.Post
negate κs a r r' e e' p q = same p q

pub absolute_value : OneResult AbsoluteValue.Post
absolute_value κs a r r' e e' p q = same p q

pub product : OneResult Product.Post
product κs a r r' e e' p q = same p q

pub long_constant : OneResult LongConstant.Post
long_constant κs a r r' e e' p q = same p q

pub shift_product : OneResult ShiftProduct.Post
shift_product κs a r r' e e' p q = same p q

pub product_high : OneResult ProductHigh.Post
product_high κs a r r' e e' p q = same p q

pub product_low : OneResult ProductLow.Post
product_low κs a r r' e e' p q = same p q

pub operand_of : OneResult OperandOf.Post
operand_of κs a r r' e e' p q = same p q

pub unsigned_operand : OneResult UnsignedOperand.Post
unsigned_operand κs a r r' e e' p q = same p q

pub stored_low : OneResult StoredLow.Post
stored_low κs a r r' e e' p q = same p q

pub stored_high : OneResult StoredHigh.Post
stored_high κs a r r' e e' p q = same p q

pub left_by_one : OneResult LeftByOne.Post
left_by_one κs a r r' e e' p q = same p q

pub right_by_one : OneResult RightByOne.Post
right_by_one κs a r r' e e' p q = same p q
