-- Sixteen passes of SUBC divide: proofs.
use Rattle.std.specs.Prelude.{◌≡◌, Bool, ltb, eqb, ℤ, ◌-ℤ◌, ◌*ℤ◌, Some}
use Rattle.std.proofs.Math.Path.{refl, ap}
use Rattle.std.proofs.Common.{◌∙◌, ap₂}
use Rattle.std.proofs.Math.Bool.{true, false, cond}
use Prim.Native.Nat.{ℕ, zero, suc, ◌+◌, ◌-◌, ◌*◌, ◌/◌, ◌%◌, ◌^◌, ◌≤◌, ◌<◌}
use native.Mathlib.Omega.{arith}
use Rattle.std.proofs.Math.Dec.{leb}
use Rattle.std.proofs.Math.IntN.{pos, negsuc}
use borrow.Author.Tests.{leb-true, leb-false, lt-ltb, le-ltb}
use Rattle.alu.specs.Whole.{up, dn, eq_from, minus_is}
use Rattle.alu.specs.Word.{signed, low}
use Rattle.alu.specs.WordLaws.{signed_is}
use Rattle.alu.specs.Shifts.{extended, operand}
use Rattle.alu.specs.PageSums.{alu_output, subtracted_conditionally}
use Rattle.sums.specs.SumLaws.{holds_in}
use Rattle.machine.specs.declared.Machine.{Machine}
use Rattle.answers.proofs.NumberLaws.{done_is}
use Rattle.instructions.specs.declared.Instruction.{Instruction}
use Rattle.pages.specs.Traits.{traits_of, accumulator_traits}
use Rattle.pages.specs.Addressing.{addressed}
use Rattle.pages.specs.AccumulatorPages.{SUBC}
use Rattle.pages.specs.AccumulatorRule.{accumulator_rule}
use Rattle.pages.specs.Rules.{rule_of}
use Rattle.board.specs.Given.{Given}
use Rattle.steps.specs.Pass.{effect_of}
use Rattle.steps.specs.World.{World}
use Rattle.steps.specs.Step.{step_of, world_after}
use Rattle.laws.specs.Laws.{PassWorks, effect_at}
use Rattle.laws.proofs.Repeats.{every_pass_works}
use Rattle.laws.proofs.OperandLaws.{Alike, operand_alike}
use Rattle.division.specs.Division.{subc, SubcPass, SubcPasses, Divisor, Divides}
use Rattle.division.specs.Digits.{subtracted_once, Digits, no_digit, next_digit, all_digits}

-- ---- one subtraction

-- a number whose top bit is 0 is read as it is
plain : (k w : ℕ) → w / 2 ^ (k - 1) ≡ 0 → signed k w ≡ pos w
plain k w h = eq_from _ _ (omega (arith, signed_is k w, ap (λ (t : ℕ). 2 ^ k * t) h))

-- the divisor, shifted left by 15, the same for either SXM: "If SXM=1, then the divisor must have a 0 value in the MSB" (SUBC's page)
shifted_divisor : (d sxm : ℕ) → Divisor d → operand d 15 sxm ≡ d * 2 ^ 15
unfolding operand extended low
shifted_divisor d sxm h = by (eqb sxm 1)
  where
    as_it_is : low 32 (pos (2 ^ 15) *ℤ pos d) ≡ d * 2 ^ 15
    as_it_is = omega arith

    by : (t : Bool) → low 32 (pos (2 ^ 15) *ℤ cond t (signed 16 d) (pos d)) ≡ d * 2 ^ 15
    by true = ap (λ (z : ℤ). low 32 (pos (2 ^ 15) *ℤ z)) (plain 16 d (omega arith)) ∙ as_it_is
    by false = as_it_is

-- SUBC by the exact difference
by_difference : (acc x ov : ℕ) (s : ℤ) → signed 32 acc -ℤ signed 32 x ≡ s → up s < 2 ^ 31 → dn s ≤ 2 ^ 31
    → ((subtracted_conditionally acc x ov).acc ≡ cond (ltb (low 32 s) (2 ^ 31)) (low 32 s * 2 + 1) (acc * 2 % 2 ^ 32)) × ((subtracted_conditionally acc x ov).ov ≡ ov)
unfolding subtracted_conditionally alu_output
by_difference acc x ov s e h k = rw (e, holds_in s h k) (refl, refl)

module _ (acc d ov sxm : ℕ) (h : Divisor d) (below : acc < d * 2 ^ 16) where
  difference : signed 32 acc -ℤ signed 32 (d * 2 ^ 15) ≡ pos acc -ℤ pos (d * 2 ^ 15)
  difference = ap₂ ◌-ℤ◌ (plain 32 acc (omega arith)) (plain 32 (d * 2 ^ 15) (omega arith))

  -- neither the difference nor twice the rest leaves 31 bits
  once : ((subtracted_conditionally acc (operand d 15 sxm) ov).acc ≡ subtracted_once d acc) × ((subtracted_conditionally acc (operand d 15 sxm) ov).ov ≡ ov)
  unfolding subtracted_once low
  once = rw (shifted_divisor d sxm h) (by (leb (d * 2 ^ 15) acc) refl)
    where
      by : (t : Bool) → leb (d * 2 ^ 15) acc ≡ t
          → ((subtracted_conditionally acc (d * 2 ^ 15) ov).acc ≡ cond t ((acc - d * 2 ^ 15) * 2 + 1) (acc * 2)) × ((subtracted_conditionally acc (d * 2 ^ 15) ov).ov ≡ ov)
      by true e =
          let most = leb-true (d * 2 ^ 15) acc e in
          let s : pos acc -ℤ pos (d * 2 ^ 15) ≡ pos (acc - d * 2 ^ 15) = eq_from _ _ (omega (arith, minus_is (pos acc) (pos (d * 2 ^ 15)))) in
          let o = by_difference acc (d * 2 ^ 15) ov (pos (acc - d * 2 ^ 15)) (difference ∙ s) (omega arith) (omega arith) in
          (o.0 ∙ rw (lt-ltb ((acc - d * 2 ^ 15) % 2 ^ 32) (2 ^ 31) (omega arith)) (omega arith), o.1)
      by false e =
          let more = leb-false (d * 2 ^ 15) acc e in
          let less : ℕ = d * 2 ^ 15 - acc - 1 in
          let s : pos acc -ℤ pos (d * 2 ^ 15) ≡ negsuc less = eq_from _ _ (omega (arith, minus_is (pos acc) (pos (d * 2 ^ 15)))) in
          let o = by_difference acc (d * 2 ^ 15) ov (negsuc less) (difference ∙ s) (omega arith) (omega arith) in
          (o.0 ∙ rw (le-ltb (2 ^ 32 - suc (less % 2 ^ 32)) (2 ^ 31) (omega arith)) (omega arith), o.1)

-- ---- one pass

module _ (g : Given) (d : ℕ) (w : World) (h : Divisor d) (below : w.m.acc < d * 2 ^ 16) where
  rule : (n : Machine) → Alike w.m n → ((SUBC d n).acc ≡ subtracted_once d w.m.acc) × ((SUBC d n).ov ≡ w.m.ov)
  unfolding SUBC
  rule n a = rw (a.acc, a.ov) (once w.m.acc d w.m.ov n.sxm h below)

  -- ACC and OV are the rule's, whether the pass goes on or is the last of its repeat
  rule_leaves : (i : Instruction) → PassWorks g w i → ((step_of g w).world.m.acc ≡ (effect_at g w i).m.acc) × ((step_of g w).world.m.ov ≡ (effect_at g w i).m.ov)
  rule_leaves i works = by w.m.rptc refl
    where
      by : (n : ℕ) → w.m.rptc ≡ n → ((step_of g w).world.m.acc ≡ (effect_at g w i).m.acc) × ((step_of g w).world.m.ov ≡ (effect_at g w i).m.ov)
      by zero e = (ap (λ (m : Machine). m.acc) (works.ends e), ap (λ (m : Machine). m.ov) (works.ends e))
      by (suc n) e = (ap (λ (m : Machine). m.acc) (works.goes_on n e), ap (λ (m : Machine). m.ov) (works.goes_on n e))

  one_pass : SubcPass g d w → ((step_of g w).world.m.acc ≡ subtracted_once d w.m.acc) × ((step_of g w).world.m.ov ≡ w.m.ov)
  unfolding effect_of traits_of accumulator_traits rule_of accumulator_rule
  one_pass p =
      let i = subc p.operand in
      let left = rule_leaves i (every_pass_works g w i p.at_subc refl (done_is _ p.not_refused)) in
      let effect : (effect_at g w i).m ≡ SUBC d (addressed (Some p.operand) w.m) = ap (λ (x : ℕ). SUBC x (addressed (Some p.operand) w.m)) p.reads in
      let o = rule (addressed (Some p.operand) w.m) (operand_alike (Some p.operand) w.m) in
      (left.0 ∙ ap (λ (m : Machine). m.acc) effect ∙ o.0, left.1 ∙ ap (λ (m : Machine). m.ov) effect ∙ o.1)

-- ---- sixteen

-- k passes more, after i
record After (n d i k : ℕ) (w v : World) : Type 0 where
  digits : Digits n d (i + k) v.m.acc
  overflow : v.m.ov ≡ w.m.ov

module _ (g : Given) (n d : ℕ) (h : Divisor d) where
  passes : (i k : ℕ) (w : World) → Digits n d i w.m.acc → SubcPasses g d k w → After n d i k w (world_after g k w)
  unfolding world_after
  passes i zero w s p = let same : i + 0 ≡ i = omega arith in record { digits = rw same s; overflow = refl }
  passes i (suc k) w s p =
      let o = one_pass g d w h s.below (p 0 (omega arith)) in
      let next : Digits n d (suc i) (step_of g w).world.m.acc = rw o.0 (next_digit n d i w.m.acc s) in
      let rest = passes (suc i) k (step_of g w).world next (λ j l. p (suc j) (omega arith)) in
      let same : i + suc k ≡ suc i + k = omega arith in
      record { digits = rw same rest.digits; overflow = rest.overflow ∙ o.1 }

pub divides : Divides
divides g d w few h p =
    let a = passes g w.m.acc d h 0 _ w (no_digit w.m.acc d h.least few) p in
    let halves = all_digits w.m.acc d _ h.least a.digits in
    record { quotient = halves.0; remainder = halves.1; overflow = a.overflow }
