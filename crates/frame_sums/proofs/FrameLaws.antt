-- The law of a stack of frames with product shift 3, whatever OVM is.
use Rattle.std.specs.Prelude.{◌≡◌, ◌↔◌, List, ℕ, ◌^◌, ◌≤◌, ◌<◌, pos, ◌*ℤ◌, length}
use Rattle.std.proofs.Common.{ap, arith}
use Rattle.std.proofs.Math.Decide.{dec_le}
use Rattle.alu.specs.Whole.{up, minus_is, times_is, le_from}
use Rattle.alu.specs.Word.{signed}
use Rattle.frame_sums.specs.Frames.{Pair, from_zero, passed, stacked, exact_sum, Bounded, Words, AllLeast}
use Rattle.frame_sums.proofs.PassSums.{floors, from_zero_lem, add_fits, add_over, floors_near, floors_in, floors_top, floors_least}

-- In up to 128 passes OV stays 0: only the final product add can set it
pub passes_keep_ov : (ws : List Pair) (ovm : ℕ) → length ws ≤ 128 → Words ws → (passed 3 ovm ws from_zero).ov ≡ 0
passes_keep_ov ws ovm l words = (from_zero_lem ws ovm words (omega arith)).ov_zero

module _ (ws : List Pair) (n ovm : ℕ) (frames : length ws ≡ n) (words : Words ws) where
  -- where the final sum fits
  fits : n ≤ 128 → up (floors ws) < 2 ^ 31 → Bounded n ws (stacked 3 ovm ws)
  unfolding stacked
  fits l h =
      let i = floors_in ws words in
      let a = add_fits (passed 3 ovm ws from_zero) (floors ws) ovm (from_zero_lem ws ovm words (omega arith)) h (omega (arith, i.below)) in
      let e : signed 32 (stacked 3 ovm ws).acc ≡ floors ws = a.0 in
      let near = floors_near ws in
      let t = times_is 64 (floors ws) in
      let d = minus_is (exact_sum ws) (pos 64 *ℤ floors ws) in
      (a.1, record { from = rw e (le_from (omega arith)); to = rw e (le_from (omega arith)) })

  -- where it does not
  over : n ≤ 128 → 2 ^ 31 ≤ up (floors ws) → (stacked 3 ovm ws).ov ≡ 1
  unfolding stacked
  over l h = add_over (passed 3 ovm ws from_zero) (floors ws) ovm (from_zero_lem ws ovm words (omega arith)) h

  -- "for n from 1 to 127 OV stays 0 and 0 <= S - 64 A <= 63 n"
  pub below_128 : 1 ≤ n → n ≤ 127 → Bounded n ws (stacked 3 ovm ws)
  below_128 h l = fits (omega arith) (omega (arith, (floors_in ws words).above))

-- "for n = 128 OV is set exactly when all 256 words read are -32768, and otherwise the same bounds hold"
pub at_128 : (ws : List Pair) (ovm : ℕ) → length ws ≡ 128 → Words ws
    → ((stacked 3 ovm ws).ov ≡ 1 ↔ AllLeast ws) × ((AllLeast ws → ⊥) → Bounded 128 ws (stacked 3 ovm ws))
at_128 ws ovm frames words = go (dec_le (2 ^ 31) (up (floors ws)))
  where
    go : Dec (2 ^ 31 ≤ up (floors ws))
        → ((stacked 3 ovm ws).ov ≡ 1 ↔ AllLeast ws) × ((AllLeast ws → ⊥) → Bounded 128 ws (stacked 3 ovm ws))
    go (yes h) =
        let all = floors_top ws words (omega arith) in
        (((λ e. all), (λ a. over ws 128 ovm frames words (omega arith) h)), (λ none. absurd (none all)))
    go (no h) =
        let r = fits ws 128 ovm frames words (omega arith) (omega arith) in
        (((λ e. absurd (omega (arith, r.0))), (λ a. absurd (omega (arith, ap up (floors_least ws a))))), (λ none. r))
