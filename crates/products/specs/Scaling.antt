-- How the product shift is worked: every PM's as one shift to the left, cut by 6 places to the right. No shift is then 6 places to the left.
use Rattle.std.specs.Prelude.{ℕ, zero, suc, ◌+◌, ◌-◌}
use Rattle.alu.specs.Word.{signed, low}
use Rattle.alu.specs.Products.{left_by, right_by}

-- the product shifted left by k places and right by 6
unfoldable pub scaled : ℕ → ℕ → ℕ
scaled k p = low 32 (right_by 6 (left_by k (signed 32 p)))

-- k for each PM: none, left 1, left 4, right 6
unfoldable pub amount_of : ℕ → ℕ
amount_of zero = 6
amount_of (suc zero) = 6 + 1
amount_of (suc (suc zero)) = 6 + 4
amount_of (suc (suc (suc n))) = 6 - 6
