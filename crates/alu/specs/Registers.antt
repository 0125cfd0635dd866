-- Sums of 16-bit registers: "All auxiliary register sums turn over modulo 65,536", and those with reversed carry.
use Rattle.std.specs.Prelude.{ℕ, zero, suc, ◌+◌, ◌*◌, ◌-◌, ◌/◌, ◌%◌, ◌^◌}

unfoldable pub wrapped_sum : ℕ → ℕ → ℕ
wrapped_sum a b = (a + b) % 2 ^ 16

unfoldable pub wrapped_difference : ℕ → ℕ → ℕ
wrapped_difference a b = (a + (2 ^ 16 - b)) % 2 ^ 16

-- the k low bits of n, in the other order: the lowest becomes the highest
unfoldable pub reversed : ℕ → ℕ → ℕ
reversed zero n = 0
reversed (suc k) n = n % 2 * 2 ^ k + reversed k (n / 2)

-- "reverse the 16 bits of both, add or subtract, reverse the result"
unfoldable pub reversed_sum : ℕ → ℕ → ℕ
reversed_sum a b = reversed 16 (wrapped_sum (reversed 16 a) (reversed 16 b))

unfoldable pub reversed_difference : ℕ → ℕ → ℕ
reversed_difference a b = reversed 16 (wrapped_difference (reversed 16 a) (reversed 16 b))
