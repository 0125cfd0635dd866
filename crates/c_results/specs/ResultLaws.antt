-- Results written one by one are all the numbers of their slice.
use Rattle.std.specs.Prelude.{◌≡◌, refl, List, [], ◌∷◌, ℕ, length, set}
use Rattle.std.proofs.Common.{arith}
use Rattle.steps.specs.declared.Outside.{Outside}
use Rattle.c_results.specs.Results.{results_of}

pub all_results : (numbers : List ℕ) (steps : ℕ) (outside : Outside) → length numbers ≡ 3
    → set (set (set numbers 0 steps) 1 outside.reads) 2 outside.writes ≡ results_of steps outside
all_results [] steps outside h = absurd (omega arith)
all_results (x ∷ []) steps outside h = absurd (omega arith)
all_results (x ∷ y ∷ []) steps outside h = absurd (omega arith)
all_results (x ∷ y ∷ z ∷ []) steps outside h = refl
all_results (x ∷ y ∷ z ∷ u ∷ numbers) steps outside h = absurd (omega arith)
