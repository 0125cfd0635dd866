-- What the arithmetic gives is within its width: proofs.
use Rattle.std.specs.Prelude.{◌≡◌, refl, Bool, leb, eqb, ℤ, pos, negsuc, ◌-ℤ◌}
use Rattle.std.proofs.Math.Bool.{true, false, cond}
use Prim.Native.Nat.{ℕ, zero, suc, ◌+◌, ◌*◌, ◌/◌, ◌%◌, ◌^◌, ◌<◌, ◌≤◌, min, max}
use native.Mathlib.Omega.{arith}
use Rattle.std.proofs.Common.{pow-suc}
use Rattle.std.proofs.Math.Dec.{ltb}
use Rattle.std.specs.Int.Bits.{differ}
use Rattle.std.specs.Int.Signed.{shr_z}
use borrow.Author.Tests.{ltb-true}
use Rattle.alu.specs.Word.{signed}
use Rattle.alu.specs.WordLaws.{low_lt}
use Rattle.alu.specs.declared.Sum.{Sum}
use Rattle.alu.specs.declared.Shifted.{Shifted}
use Rattle.alu.specs.Sums.{holds, held, settled, carry, no_borrow, added, subtracted}
use Rattle.alu.specs.PageSums.{in_high_half, added_high, subtracted_high, alu_output, subtracted_conditionally, negated, absolute}
use Rattle.alu.specs.Shifts.{operand, unsigned_operand, stored_low, stored_high, left_by_one, right_by_one}
use Rattle.alu.specs.Logic.{bit_by_bit, anded, ored, xored, complemented}
use Rattle.alu.specs.Products.{product_word, shifted_product, product_high, product_low}
use Rattle.alu.specs.Registers.{wrapped_sum, wrapped_difference, reversed_sum, reversed_difference}
use Rattle.alu.specs.RegisterLaws.{reversed_lt}

either : (t : Bool) {a b n : ℕ} → a < n → b < n → cond t a b < n
either true h k = h
either false h k = k

zero_bit : 0 < 2
zero_bit = omega arith

one_bit : 1 < 2
one_bit = omega arith

-- ---- sums

pub record SumFits (s : Sum) : Type 0 where
  pub acc : s.acc < 2 ^ 32
  pub ov : s.ov < 2
  pub c : s.c < 2

held_lt : (s : ℤ) → held s < 2 ^ 32
unfolding held
held_lt (pos n) = omega arith
held_lt (negsuc n) = omega arith

settled_fits : (s : ℤ) (ov ovm c : ℕ) → ov < 2 → c < 2 → SumFits (settled s ov ovm c)
unfolding settled
settled_fits s ov ovm c h k = record { acc = either (holds s) (low_lt s) (either (eqb ovm 1) (held_lt s) (low_lt s)); ov = either (holds s) h one_bit; c = k }

no_borrow_lt : (acc x : ℕ) → no_borrow acc x < 2
unfolding no_borrow
no_borrow_lt acc x = either (leb x acc) one_bit zero_bit

module _ {acc : ℕ} (x : ℕ) {ov : ℕ} (ovm : ℕ) (l : acc < 2 ^ 32) (h : ov < 2) where
  pub added_fits : x < 2 ^ 32 → SumFits (added acc x ov ovm)
  unfolding added carry
  added_fits k = settled_fits _ ov ovm _ h (omega arith)

  pub subtracted_fits : SumFits (subtracted acc x ov ovm)
  unfolding subtracted
  subtracted_fits = settled_fits _ ov ovm _ h (no_borrow_lt acc x)

  pub added_high_fits : {c : ℕ} → c < 2 → SumFits (added_high acc x ov ovm c)
  unfolding added_high
  added_high_fits k = settled_fits _ ov ovm _ h (either (eqb (carry acc (in_high_half x)) 1) one_bit k)

  pub subtracted_high_fits : {c : ℕ} → c < 2 → SumFits (subtracted_high acc x ov ovm c)
  unfolding subtracted_high
  subtracted_high_fits k = settled_fits _ ov ovm _ h (either (eqb (no_borrow acc (in_high_half x)) 0) zero_bit k)

  pub negated_fits : SumFits (negated acc ov ovm)
  unfolding negated
  negated_fits = settled_fits _ ov ovm _ h (either (eqb acc 0) one_bit zero_bit)

  pub absolute_fits : SumFits (absolute acc ov ovm)
  unfolding absolute
  absolute_fits = settled_fits _ ov ovm _ h (omega arith)

  pub conditionally_fits : SumFits (subtracted_conditionally acc x ov)
  unfolding subtracted_conditionally
  conditionally_fits = record { acc = by (ltb (alu_output acc x) (2 ^ 31)) refl; ov = either (holds (signed 32 acc -ℤ signed 32 x)) h one_bit; c = no_borrow_lt acc x }
    where
      by : (t : Bool) → ltb (alu_output acc x) (2 ^ 31) ≡ t → cond t (alu_output acc x * 2 + 1) (acc * 2 % 2 ^ 32) < 2 ^ 32
      by true e = let b = ltb-true (alu_output acc x) (2 ^ 31) e in omega arith
      by false e = omega arith

pub high_half_lt : (w : ℕ) → w < 2 ^ 16 → in_high_half w < 2 ^ 32
unfolding in_high_half
high_half_lt w h = omega arith

-- ---- shifts

pub operand_lt : (w s sxm : ℕ) → operand w s sxm < 2 ^ 32
unfolding operand
operand_lt w s sxm = low_lt _

pub unsigned_lt : (w : ℕ) → unsigned_operand w < 2 ^ 32
unfolding unsigned_operand
unsigned_lt w = low_lt _

pub stored_low_lt : (acc s : ℕ) → stored_low acc s < 2 ^ 16
unfolding stored_low
stored_low_lt acc s = omega arith

pub stored_high_lt : (acc s : ℕ) → stored_high acc s < 2 ^ 16
unfolding stored_high
stored_high_lt acc s = omega arith

pub record ShiftedFits (s : Shifted) : Type 0 where
  pub acc : s.acc < 2 ^ 32
  pub c : s.c < 2

pub left_fits : (acc : ℕ) → acc < 2 ^ 32 → ShiftedFits (left_by_one acc)
unfolding left_by_one
left_fits acc h = record { acc = omega arith; c = omega arith }

pub right_fits : (acc sxm : ℕ) → acc < 2 ^ 32 → ShiftedFits (right_by_one acc sxm)
unfolding right_by_one
right_fits acc sxm h = let half : acc / 2 < 2 ^ 32 = omega arith in record { acc = either (eqb sxm 1) (low_lt (shr_z (signed 32 acc) 2)) half; c = omega arith }

-- ---- logic

bits_lt : (f : ℕ → ℕ → ℕ) → ((a b : ℕ) → a < 2 → b < 2 → f a b < 2) → (k a b : ℕ) → bit_by_bit f k a b < 2 ^ k
unfolding bit_by_bit
bits_lt f h zero a b = omega arith
bits_lt f h (suc k) a b = omega (arith, pow-suc 2 k, bits_lt f h k (a / 2) (b / 2), h (a % 2) (b % 2) (omega arith) (omega arith))

differ_lt : (a b : ℕ) → a < 2 → b < 2 → differ a b < 2
differ_lt zero b h k = k
differ_lt (suc a) zero h k = h
differ_lt (suc a) (suc b) h k = differ_lt a b (omega arith) (omega arith)

module _ (acc w : ℕ) (h : acc < 2 ^ 32) where
  pub anded_lt : anded acc w < 2 ^ 32
  unfolding anded
  anded_lt = omega (arith, bits_lt min (λ a b h k. omega arith) 16 (acc % 2 ^ 16) w)

  pub ored_lt : ored acc w < 2 ^ 32
  unfolding ored
  ored_lt = omega (arith, bits_lt max (λ a b h k. omega arith) 16 (acc % 2 ^ 16) w)

  pub xored_lt : xored acc w < 2 ^ 32
  unfolding xored
  xored_lt = omega (arith, bits_lt differ differ_lt 16 (acc % 2 ^ 16) w)

pub complemented_lt : (acc : ℕ) → complemented acc < 2 ^ 32
unfolding complemented
complemented_lt acc = omega arith

-- ---- products

pub product_lt : (x y : ℕ) → product_word x y < 2 ^ 32
unfolding product_word
product_lt x y = low_lt _

pub shifted_lt : (p pm : ℕ) → shifted_product p pm < 2 ^ 32
unfolding shifted_product
shifted_lt p pm = low_lt _

pub product_high_lt : (p pm : ℕ) → product_high p pm < 2 ^ 16
unfolding product_high
product_high_lt p pm = omega (arith, shifted_lt p pm)

pub product_low_lt : (p pm : ℕ) → product_low p pm < 2 ^ 16
unfolding product_low
product_low_lt p pm = omega arith

-- ---- registers

pub sum_lt : (a b : ℕ) → wrapped_sum a b < 2 ^ 16
unfolding wrapped_sum
sum_lt a b = omega arith

pub sum_le : (a b : ℕ) → wrapped_sum a b ≤ a + b
unfolding wrapped_sum
sum_le a b = omega arith

pub difference_lt : (a b : ℕ) → wrapped_difference a b < 2 ^ 16
unfolding wrapped_difference
difference_lt a b = omega arith

pub reversed_sum_lt : (a b : ℕ) → reversed_sum a b < 2 ^ 16
unfolding reversed_sum
reversed_sum_lt a b = reversed_lt 16 _

pub reversed_difference_lt : (a b : ℕ) → reversed_difference a b < 2 ^ 16
unfolding reversed_difference
reversed_difference_lt a b = reversed_lt 16 _
