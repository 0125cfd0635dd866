-- Lists whose words all have 16 bits, by a test.
use Rattle.std.specs.Prelude.{◌≡◌, Bool, true, ◌&&◌, List, [], ◌∷◌, ℕ, zero, suc, ◌^◌, ◌<◌, ltb, get_or}
use Rattle.std.proofs.Common.{arith, ltb-true}
use Rattle.basic_laws.specs.Tests.{both_hold}
use Rattle.stacking.specs.Stacking.{Sized}

unfoldable pub all_sized : List ℕ → Bool
all_sized [] = true
all_sized (x ∷ xs) = ltb x 65536 && all_sized xs

sized_at : (l : List ℕ) → all_sized l ≡ true → (i : ℕ) → get_or l i 0 < 2 ^ 16
unfolding all_sized
sized_at [] h i = omega arith
sized_at (x ∷ xs) h zero = ltb-true x 65536 (both_hold _ _ h).0
sized_at (x ∷ xs) h (suc i) = sized_at xs (both_hold (ltb x 65536) _ h).1 i

pub sized_by : (l : List ℕ) → all_sized l ≡ true → Sized l
sized_by l h = record { bits = sized_at l h }
