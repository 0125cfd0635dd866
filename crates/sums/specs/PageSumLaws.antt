-- The sums that follow their own pages, from those of `add` and `subtract`.
use Rattle.std.specs.Prelude.{◌≡◌, refl, Bool, true, false, cond, ℕ, zero, suc, ◌+◌, ◌*◌, ◌%◌, ◌^◌, ◌≤◌, ◌<◌, leb, eqb, ◌-ℤ◌}
use Rattle.std.proofs.Common.{sym, ◌∙◌}
use native.Mathlib.Omega.{arith}
use Rattle.std.proofs.Math.IntN.{pos, neg_ℤ, nat_abs}
use borrow.Author.Tests.{lt-ltb, le-ltb, lt-leb, ne_eqb}
use Rattle.alu.specs.Whole.{part, minus_is, neg_is, abs_is, eq_from}
use Rattle.alu.specs.Word.{signed, low}
use Rattle.alu.specs.WordLaws.{signed_is, low_is}
use Rattle.alu.specs.Sums.{holds, settled, carry, no_borrow, added, subtracted}
use Rattle.sums.specs.SumLaws.{holds_in}
use Rattle.alu.specs.PageSums.{in_high_half, added_high, subtracted_high, alu_output, subtracted_conditionally, negated, absolute}

module _ (acc w ov ovm c : ℕ) where
  pub add_high_sets : (added acc (in_high_half w) ov ovm).c ≡ 1 → added acc (in_high_half w) ov ovm ≡ added_high acc w ov ovm c
  unfolding added settled added_high
  add_high_sets h = simp h

  pub add_high_keeps : ((added acc (in_high_half w) ov ovm).c ≡ 1 → ⊥)
      → record { acc = (added acc (in_high_half w) ov ovm).acc; ov = (added acc (in_high_half w) ov ovm).ov; c = c } ≡ added_high acc w ov ovm c
  unfolding added settled added_high
  add_high_keeps h = simp (ne_eqb (carry acc (in_high_half w)) 1 h)

  pub subtract_high_resets : (subtracted acc (in_high_half w) ov ovm).c ≡ 0 → subtracted acc (in_high_half w) ov ovm ≡ subtracted_high acc w ov ovm c
  unfolding subtracted settled subtracted_high
  subtract_high_resets h = simp h

  pub subtract_high_keeps : ((subtracted acc (in_high_half w) ov ovm).c ≡ 0 → ⊥)
      → record { acc = (subtracted acc (in_high_half w) ov ovm).acc; ov = (subtracted acc (in_high_half w) ov ovm).ov; c = c } ≡ subtracted_high acc w ov ovm c
  unfolding subtracted settled subtracted_high
  subtract_high_keeps h = simp (ne_eqb (no_borrow acc (in_high_half w)) 0 h)

-- with OVM 0 nothing is held
both_ways : (t : Bool) (n : ℕ) → cond t n n ≡ n
both_ways true n = refl
both_ways false n = refl

pub not_held : (acc x ov : ℕ) → (subtracted acc x ov 0).acc ≡ alu_output acc x
unfolding subtracted settled alu_output
not_held acc x ov = both_ways (holds (signed 32 acc -ℤ signed 32 x)) (low 32 (signed 32 acc -ℤ signed 32 x))

module _ (acc x ov : ℕ) where
  pub conditionally_taken : (subtracted acc x ov 0).acc < 2 ^ 31
      → record { acc = (subtracted acc x ov 0).acc * 2 + 1; ov = (subtracted acc x ov 0).ov; c = (subtracted acc x ov 0).c } ≡ subtracted_conditionally acc x ov
  unfolding subtracted_conditionally subtracted settled
  conditionally_taken h = simp (not_held acc x ov, lt-ltb _ _ (rw (not_held acc x ov) at h))

  pub conditionally_left : 2 ^ 31 ≤ (subtracted acc x ov 0).acc
      → record { acc = acc % 2 ^ 31 * 2; ov = (subtracted acc x ov 0).ov; c = (subtracted acc x ov 0).c } ≡ subtracted_conditionally acc x ov
  unfolding subtracted_conditionally subtracted settled
  conditionally_left h = simp (le-ltb _ _ (rw (not_held acc x ov) at h), doubled acc)
    where
      doubled : (n : ℕ) → n % 2 ^ 31 * 2 ≡ n * 2 % 2 ^ 32
      doubled n = omega arith

pub negated_is : (acc ov ovm : ℕ) → subtracted 0 acc ov ovm ≡ negated acc ov ovm
unfolding subtracted negated no_borrow
negated_is acc ov ovm =
    simp (
      eq_from (signed 32 0 -ℤ signed 32 acc) (neg_ℤ (signed 32 acc)) (omega (arith, minus_is (signed 32 0) (signed 32 acc), neg_is (signed 32 acc), signed_is 32 0)),
      zero_test acc,
    )
  where
    zero_test : (n : ℕ) → leb n 0 ≡ eqb n 0
    zero_test zero = refl
    zero_test (suc n) = lt-leb (suc n) 0 (omega arith) ∙ sym (ne_eqb (suc n) 0 (omega arith))

module _ (acc ov ovm : ℕ) where
  pub absolute_same : acc < 2 ^ 31 → record { acc = acc; ov = ov; c = 0 } ≡ absolute acc ov ovm
  unfolding absolute settled
  absolute_same h =
      let e : nat_abs (signed 32 acc) ≡ acc = part (signed 32 acc) (λ d. omega (arith, signed_is 32 acc, abs_is (signed 32 acc))) (λ u d. absurd (omega (arith, signed_is 32 acc))) in
      let m : acc % 2 ^ 32 ≡ acc = omega arith in
      simp (e, holds_in (pos acc) (omega arith) (omega arith), low_is (pos acc) acc 0 0 (omega arith), m)

  pub absolute_negated : 2 ^ 31 ≤ acc → acc < 2 ^ 32 → record { acc = (negated acc ov ovm).acc; ov = (negated acc ov ovm).ov; c = 0 } ≡ absolute acc ov ovm
  unfolding absolute negated settled
  absolute_negated h k =
      let e : pos (nat_abs (signed 32 acc)) ≡ neg_ℤ (signed 32 acc) = eq_from _ _ (part (signed 32 acc) (λ d. absurd (omega (arith, signed_is 32 acc))) (λ u d. omega (arith, neg_is (signed 32 acc), abs_is (signed 32 acc)))) in
      simp e
