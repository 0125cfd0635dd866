-- Numbers as text (document 01, "The run file and its one line").
use Rattle.std.specs.Prelude.{cond, List, [], ◌∷◌, ◌++◌, ℕ, zero, suc, ◌+◌, ◌-◌, ◌/◌, ◌%◌, ltb}

-- the ASCII code of a digit: "0" is 48, and "capitals" start at "A", 65
unfoldable pub digit_of : ℕ → ℕ
digit_of d = cond (ltb d 10) (48 + d) (65 + (d - 10))

-- the last k hexadecimal digits of a number, the highest first
unfoldable pub hexadecimal : ℕ → ℕ → List ℕ
hexadecimal zero n = []
hexadecimal (suc k) n = hexadecimal k (n / 16) ++ (digit_of (n % 16) ∷ [])

-- a number in decimal, with no zero in front; the first argument only bounds how many digits are looked for
unfoldable pub decimal_within : ℕ → ℕ → List ℕ
decimal_within zero n = digit_of n ∷ []
decimal_within (suc most) n =
    cond (ltb n 10) (digit_of n ∷ [])
    (decimal_within most (n / 10) ++ (digit_of (n % 10) ∷ []))

unfoldable pub decimal : ℕ → List ℕ
decimal n = decimal_within n n
