-- Bounds of the product of two 16-bit words and of the shifted product, in parts that omega reads.
use Rattle.std.specs.Prelude.{◌≡◌, ℕ, suc, ◌*◌, ◌-◌, ◌^◌, ◌≤◌, ◌<◌, ℤ, pos, negsuc, ◌*ℤ◌}
use native.Mathlib.Omega.{arith, by_contra, both_ways}
use Rattle.std.proofs.Common.{mul-le-mul}
use Rattle.std.specs.Int.Signed.{shr_z}
use Rattle.alu.specs.Whole.{up, dn, neg_is}
use Rattle.alu.specs.Word.{signed}
use Rattle.alu.specs.WordLaws.{signed_low, low_lt, Within, within_16, within_32}
use Rattle.alu.specs.Products.{product, product_word, right_by, product_shift, shifted_product}

-- two factors at most 2 ^ 15
square : {a b : ℕ} → a ≤ 2 ^ 15 → b ≤ 2 ^ 15 → a * b ≤ 2 ^ 30
square {a} {b} h k = omega (arith, mul-le-mul h k)

-- whose product is 2 ^ 30
top : {a b : ℕ} → a ≤ 2 ^ 15 → b ≤ 2 ^ 15 → 2 ^ 30 ≤ a * b → a ≡ 2 ^ 15
top {a} {b} h k e = both_ways _ _ h (by_contra _ _ (λ l. not_less l))
  where
    not_less : a < 2 ^ 15 → ⊥
    not_less l = let f : a ≤ 2 ^ 15 - 1 = omega arith in omega (arith, mul-le-mul f k)

times_in : (a b : ℤ) → Within (2 ^ 15) a → Within (2 ^ 15) b → (up (a *ℤ b) ≤ 2 ^ 30) × (dn (a *ℤ b) ≤ 2 ^ 30)
times_in (pos a) (pos b) h k = (omega (arith, square {a = a} {b = b} (omega arith) (omega arith)), omega arith)
times_in (pos a) (negsuc b) h k = omega (arith, neg_is (pos (a * suc b)), square {a = a} {b = suc b} (omega arith) (omega arith))
times_in (negsuc a) (pos b) h k = omega (arith, neg_is (pos (suc a * b)), square {a = suc a} {b = b} (omega arith) (omega arith))
times_in (negsuc a) (negsuc b) h k = (omega (arith, square {a = suc a} {b = suc b} (omega arith) (omega arith)), omega arith)

-- the largest product has both factors at -2 ^ 15
times_top : (a b : ℤ) → Within (2 ^ 15) a → Within (2 ^ 15) b → 2 ^ 30 ≤ up (a *ℤ b) → (dn a ≡ 2 ^ 15) × (dn b ≡ 2 ^ 15)
times_top (pos a) (pos b) h k e = absurd (omega (arith, top {a = a} {b = b} (omega arith) (omega arith) e))
times_top (pos a) (negsuc b) h k e = absurd (omega (arith, neg_is (pos (a * suc b))))
times_top (negsuc a) (pos b) h k e = absurd (omega (arith, neg_is (pos (suc a * b))))
times_top (negsuc a) (negsuc b) h k e = (top {a = suc a} {b = suc b} h.below k.below e, top {a = suc b} {b = suc a} k.below h.below (omega arith))

module _ (x y : ℕ) (fx : x < 2 ^ 16) (fy : y < 2 ^ 16) where
  pub product_in : (up (product x y) ≤ 2 ^ 30) × (dn (product x y) ≤ 2 ^ 30)
  unfolding product
  product_in = times_in (signed 16 x) (signed 16 y) (within_16 x fx) (within_16 y fy)

  pub product_top : 2 ^ 30 ≤ up (product x y) → (dn (signed 16 x) ≡ 2 ^ 15) × (dn (signed 16 y) ≡ 2 ^ 15)
  unfolding product
  product_top e = times_top (signed 16 x) (signed 16 y) (within_16 x fx) (within_16 y fy) e

  -- P holds the product
  pub product_word_is : signed 32 (product_word x y) ≡ product x y
  unfolding product_word
  product_word_is = let b = product_in in signed_low (product x y) (omega arith) (omega arith)

pub product_word_lt : (x y : ℕ) → product_word x y < 2 ^ 32
unfolding product_word
product_word_lt x y = low_lt (product x y)

shr_in : (z : ℤ) → Within (2 ^ 31) z → (up (shr_z z 64) < 2 ^ 31) × (dn (shr_z z 64) ≤ 2 ^ 31)
shr_in (pos n) h = omega arith
shr_in (negsuc n) h = omega arith

-- product shift 3: over 64, rounded down
pub shifted_is : (p : ℕ) → p < 2 ^ 32 → signed 32 (shifted_product p 3) ≡ shr_z (signed 32 p) 64
unfolding shifted_product product_shift right_by
shifted_is p h =
    let b = shr_in (signed 32 p) (within_32 p h) in
    signed_low (shr_z (signed 32 p) 64) b.0 b.1
