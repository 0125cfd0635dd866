-- The library's operations on digits are bit by bit.
use Rattle.std.specs.Prelude.{◌≡◌, refl}
use Rattle.std.proofs.Common.{◌∙◌, arith}
use Rattle.std.proofs.Math.Path.{ap, ap₂}
use Prim.Native.Nat.{ℕ, zero, suc, ◌+◌, ◌*◌, ◌/◌, ◌%◌, ◌^◌, ◌<◌, min, max}
use Rattle.std.specs.Int.Bits.{bit_and, bit_or, bit_xor, differ, and_step, or_step, xor_step}
use Rattle.alu.specs.Word.{high_half, low_half, from_halves}
use Rattle.alu.specs.Logic.{bit_by_bit, anded, ored, xored}

-- an operation g that goes by f on each two bits, from 0 on 0 and 0
module _ (g f : ℕ → ℕ → ℕ) (step : (a b : ℕ) → g a b ≡ g (a / 2) (b / 2) * 2 + f (a % 2) (b % 2)) (none : g 0 0 ≡ 0) where
  by_bits : (k a b : ℕ) → a < 2 ^ k → b < 2 ^ k → g a b ≡ bit_by_bit f k a b
  unfolding bit_by_bit
  by_bits zero a b h l = ap₂ g (omega arith) (omega arith) ∙ none
  by_bits (suc k) a b h l = step a b ∙ rw (by_bits k (a / 2) (b / 2) (omega arith) (omega arith))

and_bits : (k a b : ℕ) → a < 2 ^ k → b < 2 ^ k → bit_and a b ≡ bit_by_bit min k a b
and_bits = by_bits bit_and min and_step refl

or_bits : (k a b : ℕ) → a < 2 ^ k → b < 2 ^ k → bit_or a b ≡ bit_by_bit max k a b
or_bits = by_bits bit_or max or_step refl

xor_bits : (k a b : ℕ) → a < 2 ^ k → b < 2 ^ k → bit_xor a b ≡ bit_by_bit differ k a b
xor_bits = by_bits bit_xor differ xor_step refl

-- what the three functions join: the low half l and the high half h of ACC
low_lt : (acc : ℕ) → low_half acc < 2 ^ 16
low_lt acc = omega arith

module _ (acc w l : ℕ) (e : l ≡ low_half acc) (k : w < 2 ^ 16) where
  pub and_is : from_halves 0 (bit_and l w) ≡ anded acc w
  unfolding anded
  and_is = ap (λ (n : ℕ). from_halves 0 n) (ap (λ (n : ℕ). bit_and n w) e ∙ and_bits 16 (low_half acc) w (low_lt acc) k)

  pub or_is : from_halves (high_half acc) (bit_or l w) ≡ ored acc w
  unfolding ored
  or_is = ap (λ (n : ℕ). from_halves (high_half acc) n) (ap (λ (n : ℕ). bit_or n w) e ∙ or_bits 16 (low_half acc) w (low_lt acc) k)

  pub xor_is : from_halves (high_half acc) (bit_xor l w) ≡ xored acc w
  unfolding xored
  xor_is = ap (λ (n : ℕ). from_halves (high_half acc) n) (ap (λ (n : ℕ). bit_xor n w) e ∙ xor_bits 16 (low_half acc) w (low_lt acc) k)
