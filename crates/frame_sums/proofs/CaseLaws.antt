-- The computed cases hold, and the guide's SPM page is refuted.
use Rattle.std.specs.Prelude.{◌≡◌, refl, List, [], ◌∷◌, ℕ, zero, suc, ◌<◌, length, get_or, replicate}
use Rattle.std.proofs.Common.{ap, arith}
use Rattle.alu.specs.Whole.{dn}
use Rattle.alu.specs.Word.{signed, low}
use Rattle.alu.specs.Sums.{holds, held, settled, carry, added}
use Rattle.alu.specs.Products.{product, product_word, left_by, right_by, product_shift, shifted_product}
use Rattle.frame_sums.specs.Frames.{Pair, from_zero, product_added, accumulated, passed, stacked, exact_sum, Every, Words, Least, BothLeast, AllLeast}
use Rattle.frame_sums.specs.FrameCases.{least, all_least, first_changed, last_changed, all_lost, Cases}

-- what holds of a pass holds of n like it
every_same : (holds : Pair → Type 0) (w : Pair) → holds w → (n : ℕ) → Every holds (replicate n w)
unfolding Every
every_same holds w h zero = tt
every_same holds w h (suc n) = (h, every_same holds w h n)

-- what holds of every pass holds of the one at i
every_at : (holds : Pair → Type 0) (ws : List Pair) (i : ℕ) (d : Pair) → i < length ws → Every holds ws → holds (get_or ws i d)
unfolding Every
every_at holds [] i d l h = absurd (omega arith)
every_at holds (w ∷ ws) zero d l h = h.0
every_at holds (w ∷ ws) (suc i) d l h = every_at holds ws i d (omega arith) h.1

not_least : Least 0x8001 → ⊥
unfolding Least signed
not_least e = omega (arith, ap dn e)

least_words : (n : ℕ) → Words (all_least n)
unfolding Words least all_least
least_words n = every_same _ least (omega arith, omega arith) n

pub cases : Cases
unfolding least all_least first_changed last_changed all_lost from_zero product_added accumulated passed stacked exact_sum AllLeast Least BothLeast signed low holds held settled carry added product product_word left_by right_by product_shift shifted_product
cases = record {
  at_1 = λ ovm. refl;
  at_127 = λ ovm. refl;
  at_128_held = refl;
  at_128_low_bits = refl;
  all_least_case = every_same BothLeast least (refl, refl) 128;
  first_changed_case = λ ovm. refl;
  first_not_least = λ h. not_least (every_at BothLeast first_changed 0 least (omega arith) h).1;
  last_changed_case = λ ovm. refl;
  last_not_least = λ h. not_least (every_at BothLeast last_changed 127 least (omega arith) h).0;
  lost = λ ovm. refl;
  lost_sum = refl;
}

overflows : (ovm : ℕ) → (stacked 3 ovm (all_least 128)).ov ≡ 1
unfolding least all_least from_zero product_added accumulated passed stacked signed low holds held settled carry added product product_word left_by right_by product_shift shifted_product
overflows ovm = refl

-- SPM's page: "up to 128 multiply-accumulate processes without the possibility of overflow occurring". Not so, with OVM either way
pub spm_page_refuted : (ovm : ℕ) → ((ws : List Pair) → length ws ≡ 128 → Words ws → (stacked 3 ovm ws).ov ≡ 0) → ⊥
unfolding all_least
spm_page_refuted ovm never = omega (arith, overflows ovm, never (all_least 128) refl (least_words 128))
