-- What the default arm of a match on a number is told: the number is none of the cases' keys, and so the case list says its default.
use mathlib.Core.Path.{◌≡◌, refl}
use mathlib.Core.List.{List, [], ◌∷◌}
use Prim.Native.Nat.{ℕ}
use borrow.Author.Tests.{ne_eqb}
use Rattle.instructions.specs.Encoding.{find}

abbrev pub Rest : {A : Type 0} → Type 0 → List (ℕ × A) → ℕ → Type 0
Rest N [] k = N
Rest N (e ∷ es) k = Rest (N × (k ≡ e.0 → ⊥)) es k

head : {A : Type 0} (N : Type 0) (es : List (ℕ × A)) (k : ℕ) → Rest N es k → N
head N [] k r = r
head N (e ∷ es) k r = (head (N × (k ≡ e.0 → ⊥)) es k r).0

pub find_rest : {A : Type 0} (d : A) (N : Type 0) (es : List (ℕ × A)) (k : ℕ) → Rest N es k → find d es k ≡ d
find_rest d N [] k r = refl
find_rest d N (e ∷ es) k r =
    rw (ne_eqb k e.0 (head (N × (k ≡ e.0 → ⊥)) es k r).1, find) (find_rest d (N × (k ≡ e.0 → ⊥)) es k r)
