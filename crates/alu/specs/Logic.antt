-- AND, OR, XOR on the lower half of the accumulator, and CMPL.
use Rattle.std.specs.Prelude.{ℕ, zero, suc, ◌+◌, ◌*◌, ◌-◌, ◌/◌, ◌%◌, ◌^◌, min, max}
use Rattle.std.specs.Int.Bits.{differ}
use Rattle.alu.specs.Word.{high_half, low_half, from_halves}

-- the k low bits of a and b, joined bit by bit by f
unfoldable pub bit_by_bit : (ℕ → ℕ → ℕ) → ℕ → ℕ → ℕ → ℕ
bit_by_bit f zero a b = 0
bit_by_bit f (suc k) a b = bit_by_bit f k (a / 2) (b / 2) * 2 + f (a % 2) (b % 2)

-- AND: "the upper half of the accumulator is always zeroed"
unfoldable pub anded : ℕ → ℕ → ℕ
anded acc w = from_halves 0 (bit_by_bit min 16 (low_half acc) w)

-- OR: "the upper half of the accumulator is unaffected"
unfoldable pub ored : ℕ → ℕ → ℕ
ored acc w = from_halves (high_half acc) (bit_by_bit max 16 (low_half acc) w)

-- XOR: "the upper half of the accumulator is not affected"
unfoldable pub xored : ℕ → ℕ → ℕ
xored acc w = from_halves (high_half acc) (bit_by_bit differ 16 (low_half acc) w)

-- CMPL: the logical inversion, ones complement, of all 32 bits
unfoldable pub complemented : ℕ → ℕ
complemented acc = 2 ^ 32 - 1 - acc
