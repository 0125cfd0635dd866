-- The product and the product shift, in parts that omega reads.
use Rattle.std.specs.Prelude.{◌≡◌, refl, ℕ, zero, suc, ◌+◌, ◌*◌, ◌/◌, ◌%◌, ◌^◌, ◌≤◌, ◌<◌, ℤ, pos, negsuc, ◌*ℤ◌}
use Rattle.std.proofs.Common.{sym, ◌∙◌, ap, ap₂, arith, mul-le-mul, pow-add}
use Rattle.std.specs.Int.Signed.{shr_z}
use Rattle.alu.specs.Whole.{up, dn, neg_is, times_is, one_times}
use Rattle.alu.specs.Word.{signed, low}
use Rattle.alu.specs.WordLaws.{signed_is, low_is, extended_is}
use Rattle.alu.specs.Products.{product, product_word, long_constant, left_by, right_by, product_shift, shifted_product}
use Rattle.products.specs.Scaling.{scaled, amount_of}

-- a product, by its factors' parts: one of the two products of parts on each side is zero
pub times_parts : (a b : ℤ) → (up (a *ℤ b) ≡ up a * up b + dn a * dn b) × (dn (a *ℤ b) ≡ up a * dn b + dn a * up b)
times_parts (pos a) (pos b) = (omega arith, omega arith)
times_parts (pos a) (negsuc b) = (omega (arith, neg_is (pos (a * suc b))), omega (arith, neg_is (pos (a * suc b))))
times_parts (negsuc a) (pos b) = (omega (arith, neg_is (pos (suc a * b))), omega (arith, neg_is (pos (suc a * b))))
times_parts (negsuc a) (negsuc b) = (omega arith, omega arith)

-- the product of two numbers, each known but for some times 2 ^ 32, is known so too
low_times : (x y : ℤ) (a b s t : ℕ) → up x + 2 ^ 32 * s ≡ a + dn x → up y + 2 ^ 32 * t ≡ b + dn y → low 32 (x *ℤ y) ≡ a * b % 2 ^ 32
low_times x y a b s t e f =
    low_is (x *ℤ y) (a * b) (up x * t + s * up y + 2 ^ 32 * (s * t)) (s * dn y + t * dn x)
    (omega (arith, times_parts x y, ap₂ ◌*◌ e f, ap (λ (n : ℕ). n * dn y) e, ap (λ (n : ℕ). n * dn x) f))

pub product_is : (x y : ℕ) → x < 2 ^ 16 → y < 2 ^ 16 → low 32 (signed 16 x) * low 32 (signed 16 y) % 2 ^ 32 ≡ product_word x y
unfolding product_word product
product_is x y h k =
    sym (low_times (signed 16 x) (signed 16 y) (low 32 (signed 16 x)) (low 32 (signed 16 y)) (x / 2 ^ 15) (y / 2 ^ 15) (extended_is x h) (extended_is y k))

-- two factors of 32 bits
pub product_fits : {a b : ℕ} → a < 2 ^ 32 → b < 2 ^ 32 → a * b < 2 ^ 64
product_fits {a} {b} h k = let f : a ≤ 0xFFFF_FFFF = omega arith in let g : b ≤ 0xFFFF_FFFF = omega arith in omega (arith, mul-le-mul f g)

pub constant_is : (k : ℕ) → k % 2 ^ 13 + k % 2 ^ 13 / 2 ^ 12 * 57344 ≡ long_constant k
unfolding long_constant low
constant_is k = by_parts (signed 13 (k % 2 ^ 13)) (signed_is 13 (k % 2 ^ 13))
  where
    by_parts : (z : ℤ) → up z + 2 ^ 13 * (k % 2 ^ 13 / 2 ^ 12) ≡ k % 2 ^ 13 + dn z → k % 2 ^ 13 + k % 2 ^ 13 / 2 ^ 12 * 57344 ≡ low 16 z
    by_parts (pos n) h = omega arith
    by_parts (negsuc n) h = omega arith

-- ---- the product shift: one law over its amount

-- 64 bits hold enough of a whole number to shift it right by 6 and keep 32
wide_law : (z : ℤ) (x b : ℕ) → x + dn z ≡ up z + 2 ^ 64 * b → x % 2 ^ 64 / 2 ^ 6 % 2 ^ 32 ≡ low 32 (shr_z z (2 ^ 6))
unfolding low
wide_law (pos n) x b h = omega arith
wide_law (negsuc n) x b h = omega arith

pub scale_law : (p k : ℕ) → (p + p / 2 ^ 31 * 0xFFFF_FFFF_0000_0000) * 2 ^ k % 2 ^ 64 / 2 ^ 6 % 2 ^ 32 ≡ scaled k p
unfolding scaled left_by right_by
scale_law p k =
    let e = ap (λ (t : ℕ). 2 ^ k * t) (signed_is 32 p) in
    let t = times_is (2 ^ k) (signed 32 p) in
    wide_law (pos (2 ^ k) *ℤ signed 32 p) _ (p / 2 ^ 31 * 2 ^ k) (omega arith)

-- 6 places to the left of y, and cut by 6 to the right, is y
cut_back : (z y : ℤ) → up z + 64 * dn y ≡ 64 * up y + dn z → shr_z z 64 ≡ y
cut_back (pos a) (pos b) h = ap pos (omega arith)
cut_back (pos a) (negsuc b) h = absurd (omega arith)
cut_back (negsuc a) (pos b) h = absurd (omega arith)
cut_back (negsuc a) (negsuc b) h = ap negsuc (omega arith)

-- a shift to the left, by any number of places
left_scaled : (k p : ℕ) → scaled (6 + k) p ≡ low 32 (left_by k (signed 32 p))
unfolding scaled left_by right_by
left_scaled k p =
    let z = signed 32 p in
    let a = times_is (2 ^ (6 + k)) z in
    let b = times_is (2 ^ k) z in
    let e : 2 ^ (6 + k) ≡ 64 * 2 ^ k = pow-add 2 6 k in
    let u = ap (λ (n : ℕ). n * up z) e in
    let d = ap (λ (n : ℕ). n * dn z) e in
    ap (low 32) (cut_back (pos (2 ^ (6 + k)) *ℤ z) (pos (2 ^ k) *ℤ z) (omega arith))

left_none : (z : ℤ) → left_by 0 z ≡ z
unfolding left_by
left_none z = one_times z

-- what is worked is the product shift of each PM
pub scaled_is : (p pm : ℕ) → scaled (amount_of pm) p ≡ shifted_product p pm
unfolding amount_of shifted_product product_shift scaled
scaled_is p zero = left_scaled 0 p ∙ ap (low 32) (left_none (signed 32 p))
scaled_is p (suc zero) = left_scaled 1 p
scaled_is p (suc (suc zero)) = left_scaled 4 p
scaled_is p (suc (suc (suc n))) = ap (λ (z : ℤ). low 32 (right_by 6 z)) (left_none (signed 32 p))

pub amount_le : (pm : ℕ) → amount_of pm ≤ 10
unfolding amount_of
amount_le zero = omega arith
amount_le (suc zero) = omega arith
amount_le (suc (suc zero)) = omega arith
amount_le (suc (suc (suc n))) = omega arith

pub amount_last : (pm : ℕ) → (pm ≡ 0 → ⊥) → (pm ≡ 1 → ⊥) → (pm ≡ 2 → ⊥) → amount_of pm ≡ 0
unfolding amount_of
amount_last zero a b c = absurd (a refl)
amount_last (suc zero) a b c = absurd (b refl)
amount_last (suc (suc zero)) a b c = absurd (c refl)
amount_last (suc (suc (suc n))) a b c = refl
