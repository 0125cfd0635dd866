-- The signed product, and the product shift.
use Rattle.std.specs.Prelude.{ℕ, zero, suc, ◌%◌, ◌^◌, ℤ, pos, ◌*ℤ◌}
use Rattle.std.specs.Int.Signed.{shr_z}
use Rattle.alu.specs.Word.{signed, low, high_half, low_half}

-- the exact product of two 16-bit words, read as signed
unfoldable pub product : ℕ → ℕ → ℤ
product x y = signed 16 x *ℤ signed 16 y

-- what P takes
unfoldable pub product_word : ℕ → ℕ → ℕ
product_word x y = low 32 (product x y)

-- MPYK: its word's 13-bit signed constant, as the multiplier's 16-bit operand
unfoldable pub long_constant : ℕ → ℕ
long_constant k = low 16 (signed 13 (k % 2 ^ 13))

-- A whole number shifted to the left, and to the right: with its sign, its low bits lost.
unfoldable pub left_by : ℕ → ℤ → ℤ
left_by places z = pos (2 ^ places) *ℤ z

unfoldable pub right_by : ℕ → ℤ → ℤ
right_by places z = shr_z z (2 ^ places)

-- "Product shift: PM 0 none, 1 left 1, 2 left 4, 3 right 6 with sign, low bits lost."
unfoldable pub product_shift : ℕ → ℤ → ℤ
product_shift zero z = z
product_shift (suc zero) z = left_by 1 z
product_shift (suc (suc zero)) z = left_by 4 z
product_shift (suc (suc (suc n))) z = right_by 6 z

-- the product shifter's output: 32 bits, those pushed out at the top are lost (ruling R16)
unfoldable pub shifted_product : ℕ → ℕ → ℕ
shifted_product p pm = low 32 (product_shift pm (signed 32 p))

-- SPH: "PR shifter output (31-16)"; SPL: "PR shifter output (15-0)"
unfoldable pub product_high : ℕ → ℕ → ℕ
product_high p pm = high_half (shifted_product p pm)

unfoldable pub product_low : ℕ → ℕ → ℕ
product_low p pm = low_half (shifted_product p pm)
