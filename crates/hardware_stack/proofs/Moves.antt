-- What the two moves of the stack make of its eight words.
use mathlib.Core.Path.{◌≡◌, sym, ap}
use mathlib.Core.List.{List, [], ◌∷◌, ◌++◌}
use Prim.Native.Nat.{ℕ}
use lib.ListN.{length, get_or, take, drop}
use Rattle.hardware_stack.specs.declared.Stack.{Stack}
use Rattle.hardware_stack.specs.Stack.{push_of, pop_of}
use Rattle.hardware_stack.specs.Eight.{eight}

module _ (s : Stack) (h : length s.words ≡ 8) where
  abbrev at : ℕ → ℕ
  at i = get_or s.words i 0

  pub pushes : (word : ℕ) → record { words = word ∷ at 0 ∷ at 1 ∷ at 2 ∷ at 3 ∷ at 4 ∷ at 5 ∷ at 6 ∷ [] } ≡ push_of s word
  unfolding push_of
  pushes word = ap (λ (l : List ℕ). record { words = word ∷ take 7 l }) (sym (eight s.words h))

  pub pops : record { words = at 1 ∷ at 2 ∷ at 3 ∷ at 4 ∷ at 5 ∷ at 6 ∷ at 7 ∷ at 7 ∷ [] } ≡ pop_of s
  unfolding pop_of
  pops = ap (λ (l : List ℕ). record { words = drop 1 l ++ (at 7 ∷ []) }) (sym (eight s.words h))
