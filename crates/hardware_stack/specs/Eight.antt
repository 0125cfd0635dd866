-- A list of eight words is its eight elements.
use Rattle.std.specs.Prelude.{◌≡◌, List, [], ◌∷◌, ℕ, length, get_or, drop}
use Rattle.std.proofs.Common.{sym, ◌∙◌, ap, arith, drop-cons}
use Rattle.std.proofs.Math.Seq.{drop-length}

pub eight : (l : List ℕ) → length l ≡ 8
    → l ≡ get_or l 0 0 ∷ get_or l 1 0 ∷ get_or l 2 0 ∷ get_or l 3 0 ∷ get_or l 4 0 ∷ get_or l 5 0 ∷ get_or l 6 0 ∷ get_or l 7 0 ∷ []
eight l h =
    drop-cons l 0 0 (omega arith)
    ∙ ap (λ (t : List ℕ). get_or l 0 0 ∷ t) (drop-cons l 1 0 (omega arith)
    ∙ ap (λ (t : List ℕ). get_or l 1 0 ∷ t) (drop-cons l 2 0 (omega arith)
    ∙ ap (λ (t : List ℕ). get_or l 2 0 ∷ t) (drop-cons l 3 0 (omega arith)
    ∙ ap (λ (t : List ℕ). get_or l 3 0 ∷ t) (drop-cons l 4 0 (omega arith)
    ∙ ap (λ (t : List ℕ). get_or l 4 0 ∷ t) (drop-cons l 5 0 (omega arith)
    ∙ ap (λ (t : List ℕ). get_or l 5 0 ∷ t) (drop-cons l 6 0 (omega arith)
    ∙ ap (λ (t : List ℕ). get_or l 6 0 ∷ t) (drop-cons l 7 0 (omega arith)
    ∙ ap (λ (t : List ℕ). get_or l 7 0 ∷ t) (ap (λ (n : ℕ). drop n l) (sym h) ∙ drop-length l))))))))
