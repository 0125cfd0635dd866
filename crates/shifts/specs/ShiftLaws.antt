-- Shifts to the left by any number of places, and SFR by the sign.
use Rattle.std.specs.Prelude.{◌≡◌, ℕ, ◌+◌, ◌*◌, ◌-◌, ◌/◌, ◌%◌, ◌^◌, ◌≤◌, ◌<◌, ℤ, pos, negsuc, ◌*ℤ◌}
use Rattle.std.proofs.Common.{sym, ◌∙◌, ap, arith, mul_assoc, pow-add, eq-eqb, ne_eqb}
use Rattle.std.proofs.Math.Nat.{mul-mod_left}
use Rattle.std.specs.Int.Signed.{shr_z}
use Rattle.alu.specs.Whole.{up, dn, times_is}
use Rattle.alu.specs.Word.{signed, low}
use Rattle.alu.specs.WordLaws.{signed_is, low_is, extended_is}
use Rattle.alu.specs.Shifts.{extended, operand, stored_low, left_by_one, right_by_one}

-- nothing is left of 32 bits that go 32 places or more
pub all_lost : (x s : ℕ) → 32 ≤ s → x * 2 ^ s % 2 ^ 32 ≡ 0
all_lost x s h =
    let e : 2 ^ s ≡ 2 ^ (s - 32) * 2 ^ 32 = ap (λ (n : ℕ). 2 ^ n) (omega arith) ∙ pow-add 2 (s - 32) 32 in
    rw e (ap (λ (n : ℕ). n % 2 ^ 32) (sym (mul_assoc x (2 ^ (s - 32)) (2 ^ 32))) ∙ mul-mod_left (x * 2 ^ (s - 32)) (2 ^ 32))

-- the low bits of a multiple, of a number that is known but for some times 2 ^ 32
low_multiple : (z : ℤ) (m a s : ℕ) → up z + 2 ^ 32 * a ≡ m + dn z → m * 2 ^ s % 2 ^ 32 ≡ low 32 (pos (2 ^ s) *ℤ z)
low_multiple z m a s h =
    let e = ap (λ (t : ℕ). 2 ^ s * t) h in
    let t = times_is (2 ^ s) z in
    sym (low_is (pos (2 ^ s) *ℤ z) (m * 2 ^ s) (2 ^ s * a) 0 (omega arith))

pub operand_signed : (w s sxm : ℕ) → w < 2 ^ 16 → sxm ≡ 1 → low 32 (signed 16 w) * 2 ^ s % 2 ^ 32 ≡ operand w s sxm
unfolding operand extended
operand_signed w s sxm h e = rw (eq-eqb sxm 1 e) (low_multiple (signed 16 w) (low 32 (signed 16 w)) (w / 2 ^ 15) s (extended_is w h))

pub operand_plain : (w s sxm : ℕ) → (sxm ≡ 1 → ⊥) → w * 2 ^ s % 2 ^ 32 ≡ operand w s sxm
unfolding operand extended
operand_plain w s sxm h = rw (ne_eqb sxm 1 h) (low_multiple (pos w) w 0 s (omega arith))

pub low_of_shifted : (acc s : ℕ) → acc * 2 ^ s % 2 ^ 32 % 2 ^ 16 ≡ stored_low acc s
unfolding stored_low
low_of_shifted acc s = omega arith

-- SFL and SFR
pub left_is : (acc : ℕ) → record { acc = acc % 2 ^ 31 * 2; c = acc / 2 ^ 31 } ≡ left_by_one acc
unfolding left_by_one
left_is acc = let e : acc % 2 ^ 31 * 2 ≡ acc * 2 % 2 ^ 32 = omega arith in rw e

right_halves : (z : ℤ) (acc : ℕ) → acc < 2 ^ 32 → up z + 2 ^ 32 * (acc / 2 ^ 31) ≡ acc + dn z → acc / 2 + acc / 2 ^ 31 * 2 ^ 31 ≡ low 32 (shr_z z 2)
unfolding low
right_halves (pos n) acc h e = omega arith
right_halves (negsuc n) acc h e = omega arith

pub right_signed : (acc sxm : ℕ) → acc < 2 ^ 32 → sxm ≡ 1 → record { acc = acc / 2 + acc / 2 ^ 31 * 2 ^ 31; c = acc % 2 } ≡ right_by_one acc sxm
unfolding right_by_one
right_signed acc sxm h e = rw (eq-eqb sxm 1 e, right_halves (signed 32 acc) acc h (signed_is 32 acc))

pub right_plain : (acc sxm : ℕ) → (sxm ≡ 1 → ⊥) → record { acc = acc / 2; c = acc % 2 } ≡ right_by_one acc sxm
unfolding right_by_one
right_plain acc sxm h = rw (ne_eqb sxm 1 h)
