-- Laws of the signed reading and of the low bits, in parts that omega reads.
use Rattle.std.specs.Prelude.{◌≡◌, ℕ, suc, ◌+◌, ◌*◌, ◌-◌, ◌/◌, ◌%◌, ◌^◌, ◌≤◌, ◌<◌, ℤ, pos, negsuc}
use Rattle.std.proofs.Common.{arith}
use Rattle.alu.specs.Whole.{up, dn, part, sub_is, eq_from}
use Rattle.alu.specs.Word.{signed, low}

-- the signed reading
pub signed_is : (k w : ℕ) → up (signed k w) + 2 ^ k * (w / 2 ^ (k - 1)) ≡ w + dn (signed k w)
unfolding signed
signed_is k w = sub_is w (2 ^ k * (w / 2 ^ (k - 1)))

-- the low bits of z are those of m, where the two differ by some times 2 ^ 32
pub low_is : (z : ℤ) (m a b : ℕ) → up z + 2 ^ 32 * a ≡ m + dn z + 2 ^ 32 * b → low 32 z ≡ m % 2 ^ 32
unfolding low
low_is (pos n) m a b h = omega arith
low_is (negsuc n) m a b h = omega arith

-- a 16-bit word, extended by its sign
pub sign_extends : (w : ℕ) → w < 2 ^ 16 → w + w / 2 ^ 15 * 0xFFFF_0000 ≡ low 32 (signed 16 w)
sign_extends w h = let l = low_is (signed 16 w) (w + w / 2 ^ 15 * 0xFFFF_0000) (w / 2 ^ 15) 0 (omega (arith, signed_is 16 w)) in omega arith

pub extended_is : (w : ℕ) → w < 2 ^ 16 → up (signed 16 w) + 2 ^ 32 * (w / 2 ^ 15) ≡ low 32 (signed 16 w) + dn (signed 16 w)
extended_is w h = omega (arith, signed_is 16 w, sign_extends w h)

pub low_lt : (z : ℤ) → low 32 z < 2 ^ 32
unfolding low
low_lt (pos n) = omega arith
low_lt (negsuc n) = omega arith

-- the low bits of a number that 32 bits hold, read back
pub signed_low : (z : ℤ) → up z < 2 ^ 31 → dn z ≤ 2 ^ 31 → signed 32 (low 32 z) ≡ z
unfolding low
signed_low (pos n) h k = eq_from _ _ (omega (arith, signed_is 32 (n % 2 ^ 32)))
signed_low (negsuc n) h k = eq_from _ _ (omega (arith, signed_is 32 (2 ^ 32 - suc (n % 2 ^ 32))))

-- a word's signed reading lies in its bits
pub record Within (half : ℕ) (z : ℤ) : Type 0 where
  pub above : up z < half
  pub below : dn z ≤ half

pub within_16 : (w : ℕ) → w < 2 ^ 16 → Within (2 ^ 15) (signed 16 w)
within_16 w h = record {
  above = part (signed 16 w) (λ d. omega (arith, signed_is 16 w)) (λ u d. omega arith);
  below = part (signed 16 w) (λ d. omega arith) (λ u d. omega (arith, signed_is 16 w));
}

pub within_32 : (w : ℕ) → w < 2 ^ 32 → Within (2 ^ 31) (signed 32 w)
within_32 w h = record {
  above = part (signed 32 w) (λ d. omega (arith, signed_is 32 w)) (λ u d. omega arith);
  below = part (signed 32 w) (λ d. omega arith) (λ u d. omega (arith, signed_is 32 w));
}
