-- A run of stores, one store further.
use mathlib.Core.Path.{◌≡◌}
use mathlib.Core.List.{List}
use Prim.Native.Nat.{ℕ, ◌+◌, ◌<◌}
use native.Mathlib.Omega.{arith}
use native.Mathlib.Numerals.{add-one}
use lib.ListN.{length, take, get_or, set}
use lib.Seq.{sets, take-suc, length-take-le}
use Rattle.basic_laws.specs.Stores.{sets_append}

pub sets_more : (cells₀ : List ℕ) {cells : List ℕ} (numbers : List ℕ) (at k : ℕ) → cells ≡ sets cells₀ at (take k numbers) → k < length numbers
    → set cells (at + k) (get_or numbers k 0) ≡ sets cells₀ at (take (k + 1) numbers)
sets_more cells₀ numbers at k e h =
    let n : length (take k numbers) ≡ k = length-take-le k numbers (omega arith) in
    rw (add-one, take-suc numbers k 0, sets_append, n, ← e)
