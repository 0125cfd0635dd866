-- What a run hands out beside the machine, in the order of the header: the steps done, and their external reads and writes.
use Rattle.std.specs.Prelude.{Bool, cond, List, [], ◌∷◌, ℕ, eqb, length}
use Rattle.steps.specs.declared.Outside.{Outside}

abbrev pub results_of : ℕ → Outside → List ℕ
results_of steps outside = steps ∷ outside.reads ∷ outside.writes ∷ []

-- a slice to put them in is of their number
unfoldable pub results_fit : List ℕ → Bool
results_fit numbers = eqb (length numbers) 3

-- the slice after they were written to it
unfoldable pub results_after : List ℕ → ℕ → Outside → List ℕ
results_after numbers steps outside = cond (results_fit numbers) (results_of steps outside) numbers
