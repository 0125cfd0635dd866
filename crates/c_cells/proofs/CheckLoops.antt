-- What the chain over the cells and their limits gathers.
use mathlib.Core.Path.{◌≡◌, refl, ◌∙◌}
use mathlib.Core.Bool.{Bool, true, ◌&&◌}
use mathlib.Core.List.{List}
use Prim.Native.Nat.{ℕ, zero, suc, ◌≤◌}
use native.Mathlib.Omega.{arith}
use lib.Dec.{leb}
use lib.ListN.{length, take}
use lib.Seq.{take-suc, take-length}
use Rattle.std.proofs.lemmas.List.Sums.{fold-append}
use Rattle.std.proofs.lemmas.Slice.Zip.{length-zip, get_or-zip}
use Rattle.std.specs.List.{fold, zip}
use Rattle.machine.specs.Table.{cell_count}
use Rattle.c_cells.specs.Checks.{limits, within_limits}

-- one pair more
abbrev pub also_kept : Bool → ℕ × ℕ → Bool
also_kept kept p = kept && leb p.0 p.1

gathered_first : (cells : List ℕ) → length cells ≡ cell_count → (n : ℕ) → n ≤ cell_count → fold also_kept true (take n (zip cells limits)) ≡ within_limits n cells
unfolding limits within_limits
gathered_first cells h zero most = refl
gathered_first cells h (suc n) most =
    let pairs : length (zip cells limits) ≡ cell_count = length-zip cells limits ∙ rw h refl in
    rw (take-suc (zip cells limits) n (0, 0) (omega (arith, pairs)), fold-append also_kept true, gathered_first cells h n (omega arith), get_or-zip cells limits n (0, 0) (omega (arith, h)) (omega arith))

-- all of them
pub gathered : (cells : List ℕ) → length cells ≡ cell_count → fold also_kept true (zip cells limits) ≡ within_limits cell_count cells
unfolding limits
gathered cells h =
    let pairs : length (zip cells limits) ≡ cell_count = length-zip cells limits ∙ rw h refl in
    let all : take cell_count (zip cells limits) ≡ zip cells limits = rw pairs at (take-length (zip cells limits)) in
    rw all at (gathered_first cells h cell_count (omega arith))
