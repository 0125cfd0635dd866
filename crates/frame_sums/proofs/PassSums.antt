-- What passes with product shift 3 leave: ACC and the product still to be added come to the sum of the products over 64, each rounded down.
use Rattle.std.specs.Prelude.{◌≡◌, refl, List, [], ◌∷◌, ℕ, ◌+◌, ◌*◌, ◌^◌, ◌≤◌, ◌<◌, ℤ, pos, negsuc, ◌+ℤ◌, length}
use Rattle.std.proofs.Common.{◌∙◌, ap, subst, arith}
use Rattle.std.proofs.Math.IntN.{+ℤ_assoc, +ℤ_idr, +ℤ_idl}
use Rattle.std.specs.Int.Signed.{shr_z}
use Rattle.alu.specs.Whole.{up, dn, part, add_is, floor_le, floor_lt, eq_from, no_up}
use Rattle.alu.specs.Word.{signed}
use Rattle.alu.specs.Sums.{settled, added}
use Rattle.sums.specs.SumLaws.{holds_in, holds_over}
use Rattle.alu.specs.WordLaws.{signed_low}
use Rattle.alu.specs.Products.{product, shifted_product}
use Rattle.frame_sums.specs.Frames.{Pair, Accumulation, from_zero, product_added, accumulated, passed, exact_sum, Every, Words, Least, BothLeast, AllLeast}
use Rattle.frame_sums.specs.ProductBounds.{product_in, product_top, product_word_is, product_word_lt, shifted_is}

-- ---- one sum

module _ (acc x ov ovm : ℕ) where
  sum_fits : up (signed 32 acc +ℤ signed 32 x) < 2 ^ 31 → dn (signed 32 acc +ℤ signed 32 x) ≤ 2 ^ 31
      → (signed 32 (added acc x ov ovm).acc ≡ signed 32 acc +ℤ signed 32 x) × ((added acc x ov ovm).ov ≡ ov)
  unfolding added settled
  sum_fits h k = simp (holds_in (signed 32 acc +ℤ signed 32 x) h k) (signed_low (signed 32 acc +ℤ signed 32 x) h k, refl)

  sum_over : 2 ^ 31 ≤ up (signed 32 acc +ℤ signed 32 x) → (added acc x ov ovm).ov ≡ 1
  unfolding added settled
  sum_over h = simp (holds_over (signed 32 acc +ℤ signed 32 x) h)

-- ---- products over 64, rounded down

-- at most k times the largest of them
pub record Reach (k : ℕ) (z : ℤ) : Type 0 where
  pub above : up z ≤ k * 2 ^ 24
  pub below : dn z ≤ k * 2 ^ 24

reach_zero : Reach 0 (pos 0)
reach_zero = record { above = omega arith; below = omega arith }

reach_sum : (j k : ℕ) (a b : ℤ) → Reach j a → Reach k b → Reach (j + k) (a +ℤ b)
reach_sum j k a b f g = record {
  above = part (a +ℤ b) (λ d. omega (arith, add_is a b)) (λ u d. omega arith);
  below = part (a +ℤ b) (λ d. omega arith) (λ u d. omega (arith, add_is a b));
}

floor_in : (z : ℤ) → up z ≤ 2 ^ 30 → dn z ≤ 2 ^ 30 → Reach 1 (shr_z z 64)
floor_in (pos n) h k = record { above = omega arith; below = omega arith }
floor_in (negsuc n) h k = record { above = omega arith; below = omega arith }

floor_top : (z : ℤ) → 2 ^ 24 ≤ up (shr_z z 64) → 2 ^ 30 ≤ up z
floor_top (pos n) h = omega arith
floor_top (negsuc n) h = omega arith

-- a pass's product
unfoldable pub floored : Pair → ℤ
floored w = shr_z (product w.data_word w.program_word) 64

-- those of all passes
unfoldable pub floors : List Pair → ℤ
floors [] = pos 0
floors (w ∷ ws) = floored w +ℤ floors ws

least : (x : ℕ) → dn (signed 16 x) ≡ 2 ^ 15 → Least x
unfolding Least
least x e = eq_from (signed 16 x) (negsuc 32767) (omega (arith, e, no_up (signed 16 x) (omega (arith, e))))

module _ (w : Pair) (fx : w.data_word < 2 ^ 16) (fy : w.program_word < 2 ^ 16) where
  floored_in : Reach 1 (floored w)
  unfolding floored
  floored_in = let b = product_in w.data_word w.program_word fx fy in floor_in (product w.data_word w.program_word) b.0 b.1

  floored_top : 2 ^ 24 ≤ up (floored w) → BothLeast w
  unfolding floored BothLeast
  floored_top h =
      let t = product_top w.data_word w.program_word fx fy (floor_top (product w.data_word w.program_word) h) in
      (least w.data_word t.0, least w.program_word t.1)

floored_least : (w : Pair) → BothLeast w → floored w ≡ pos (2 ^ 24)
unfolding floored product Least BothLeast
floored_least w h = rw (h.0, h.1)

-- ---- ACC and the product still to be added

pub record Pending (s : Accumulation) (z : ℤ) : Type 0 where
  pub p_fits : s.p < 2 ^ 32
  pub ov_zero : s.ov ≡ 0
  pub comes_to : signed 32 s.acc +ℤ shr_z (signed 32 s.p) 64 ≡ z

pending_zero : Pending from_zero (pos 0)
unfolding from_zero signed
pending_zero = record { p_fits = omega arith; ov_zero = refl; comes_to = refl }

module _ (s : Accumulation) (z : ℤ) (ovm : ℕ) (r : Pending s z) where
  exact : signed 32 s.acc +ℤ signed 32 (shifted_product s.p 3) ≡ z
  exact = rw (shifted_is s.p r.p_fits) r.comes_to

  pub add_fits : up z < 2 ^ 31 → dn z ≤ 2 ^ 31 → (signed 32 (product_added 3 ovm s).acc ≡ z) × ((product_added 3 ovm s).ov ≡ 0)
  unfolding product_added
  add_fits h k =
      let a = sum_fits s.acc (shifted_product s.p 3) s.ov ovm (rw exact h) (rw exact k) in
      (a.0 ∙ exact, a.1 ∙ r.ov_zero)

  pub add_over : 2 ^ 31 ≤ up z → (product_added 3 ovm s).ov ≡ 1
  unfolding product_added
  add_over h = sum_over s.acc (shifted_product s.p 3) s.ov ovm (rw exact h)

  pass_pending : (w : Pair) → w.data_word < 2 ^ 16 → w.program_word < 2 ^ 16 → up z < 2 ^ 31 → dn z ≤ 2 ^ 31 → Pending (accumulated 3 ovm w s) (z +ℤ floored w)
  unfolding accumulated floored
  pass_pending w fx fy h k =
      let a = add_fits h k in
      let e : signed 32 (accumulated 3 ovm w s).acc ≡ z = a.0 in
      record {
        p_fits = product_word_lt w.data_word w.program_word;
        ov_zero = a.1;
        comes_to = rw (e, product_word_is w.data_word w.program_word fx fy);
      }

passes_pending : (ws : List Pair) (s : Accumulation) (z : ℤ) (k ovm : ℕ) → Words ws → Pending s z → Reach k z → k + length ws ≤ 128 → Pending (passed 3 ovm ws s) (z +ℤ floors ws)
unfolding passed Every Words floors
passes_pending [] s z k ovm f r i l = rw (+ℤ_idr z) r
passes_pending (w ∷ ws) s z k ovm f r i l =
    rw (← +ℤ_assoc z (floored w) (floors ws))
    (passes_pending ws (accumulated 3 ovm w s) (z +ℤ floored w) (k + 1) ovm f.1
    (pass_pending s z ovm r w f.0.0 f.0.1 (omega (arith, i.above)) (omega (arith, i.below)))
    (reach_sum k 1 z (floored w) i (floored_in w f.0.0 f.0.1)) (omega arith))

-- the passes from zero
pub from_zero_lem : (ws : List Pair) (ovm : ℕ) → Words ws → length ws ≤ 128 → Pending (passed 3 ovm ws from_zero) (floors ws)
from_zero_lem ws ovm f l = rw (+ℤ_idl (floors ws)) at (passes_pending ws from_zero (pos 0) 0 ovm f pending_zero reach_zero (omega arith))

-- ---- the sum of them against the exact sum

pub floors_near : (ws : List Pair)
    → (64 * up (floors ws) + dn (exact_sum ws) ≤ up (exact_sum ws) + 64 * dn (floors ws)) × (up (exact_sum ws) + 64 * dn (floors ws) ≤ 64 * up (floors ws) + dn (exact_sum ws) + 63 * length ws)
unfolding floors floored exact_sum
floors_near [] = (omega arith, omega arith)
floors_near (w ∷ ws) =
    let z = product w.data_word w.program_word in
    omega (arith, floors_near ws, floor_le z 64 (omega arith), floor_lt z 64 (omega arith), add_is z (exact_sum ws), add_is (shr_z z 64) (floors ws))

pub floors_in : (ws : List Pair) → Words ws → Reach (length ws) (floors ws)
unfolding Every Words floors
floors_in [] f = reach_zero
floors_in (w ∷ ws) f =
    subst (λ (n : ℕ). Reach n (floored w +ℤ floors ws)) (omega arith)
    (reach_sum 1 (length ws) (floored w) (floors ws) (floored_in w f.0.0 f.0.1) (floors_in ws f.1))

-- it reaches its bound where every word is -32768
pub floors_least : (ws : List Pair) → AllLeast ws → floors ws ≡ pos (length ws * 2 ^ 24)
unfolding Every AllLeast floors
floors_least [] h = refl
floors_least (w ∷ ws) h = rw (floored_least w h.0, floors_least ws h.1) (ap pos (omega arith))

-- and nowhere else
pub floors_top : (ws : List Pair) → Words ws → length ws * 2 ^ 24 ≤ up (floors ws) → AllLeast ws
unfolding Every Words AllLeast floors
floors_top [] f h = tt
floors_top (w ∷ ws) f h =
    let q = floored_in w f.0.0 f.0.1 in
    let i = floors_in ws f.1 in
    let a = add_is (floored w) (floors ws) in
    let n = part (floored w +ℤ floors ws) (λ d. d) (λ u d. absurd (omega arith)) in
    (floored_top w f.0.0 f.0.1 (omega (arith, q.above, i.above)), floors_top ws f.1 (omega (arith, q.above, i.above)))
