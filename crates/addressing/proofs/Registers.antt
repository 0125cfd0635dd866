-- The eight registers with one of them written, each by itself.
use mathlib.Core.Path.{◌≡◌, refl, sym, ap, ◌∙◌}
use mathlib.Core.Bool.{Bool, true, false, cond}
use mathlib.Core.List.{List, [], ◌∷◌}
use Prim.Native.Nat.{ℕ, ◌<◌}
use native.Mathlib.Omega.{arith}
use lib.Dec.{eqb}
use lib.ListN.{length, get_or, set, length-set}
use lib.Seq.{get_or-set_same, get_or-set_other}
use borrow.Author.Tests.{eqb-true, eqb-false}
use Rattle.hardware_stack.specs.Eight.{eight}

by_test : (t : Bool) (l : List ℕ) (i j w : ℕ) → eqb i j ≡ t → j < length l → cond t w (get_or l j 0) ≡ get_or (set l i w) j 0
by_test true l i j w e h =
    let same : i ≡ j = eqb-true i j e in
    sym (ap (λ (k : ℕ). get_or (set l k w) j 0) same ∙ get_or-set_same l j w 0 h)
by_test false l i j w e h = sym (get_or-set_other l i j w 0 (λ q. eqb-false i j e (sym q)))

one : (l : List ℕ) (i j w : ℕ) → j < length l → cond (eqb i j) w (get_or l j 0) ≡ get_or (set l i w) j 0
one l i j w h = by_test (eqb i j) l i j w refl h

pub each_by_itself : (l : List ℕ) (i w : ℕ) {x0 x1 x2 x3 x4 x5 x6 x7 : ℕ} → length l ≡ 8
    → x0 ≡ cond (eqb i 0) w (get_or l 0 0)
    → x1 ≡ cond (eqb i 1) w (get_or l 1 0)
    → x2 ≡ cond (eqb i 2) w (get_or l 2 0)
    → x3 ≡ cond (eqb i 3) w (get_or l 3 0)
    → x4 ≡ cond (eqb i 4) w (get_or l 4 0)
    → x5 ≡ cond (eqb i 5) w (get_or l 5 0)
    → x6 ≡ cond (eqb i 6) w (get_or l 6 0)
    → x7 ≡ cond (eqb i 7) w (get_or l 7 0)
    → (x0 ∷ x1 ∷ x2 ∷ x3 ∷ x4 ∷ x5 ∷ x6 ∷ x7 ∷ []) ≡ set l i w
each_by_itself l i w h e0 e1 e2 e3 e4 e5 e6 e7 =
    (λ t. (e0 ∙ one l i 0 w (omega arith)) t ∷ (e1 ∙ one l i 1 w (omega arith)) t ∷ (e2 ∙ one l i 2 w (omega arith)) t ∷ (e3 ∙ one l i 3 w (omega arith)) t ∷ (e4 ∙ one l i 4 w (omega arith)) t ∷ (e5 ∙ one l i 5 w (omega arith)) t ∷ (e6 ∙ one l i 6 w (omega arith)) t ∷ (e7 ∙ one l i 7 w (omega arith)) t ∷ [])
    ∙ sym (eight (set l i w) (length-set l i w ∙ h))
