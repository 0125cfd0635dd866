-- Laws of push and pop.
use Rattle.std.specs.Prelude.{◌≡◌, refl, ℕ, length, take}
use Rattle.std.proofs.Common.{arith, length-append, length-drop}
use Rattle.std.proofs.Math.ListN.{length-take}
use Rattle.std.proofs.Math.Seq.{take_at}
use Rattle.hardware_stack.specs.declared.Stack.{Stack}
use Rattle.hardware_stack.specs.Stack.{push_of, pop_of, top_of}

-- A pop after a push gives the word that was pushed ..
pub top_push : (s : Stack) (word : ℕ) → top_of (push_of s word) ≡ word
unfolding top_of push_of
top_push s word = refl

module _ (s : Stack) (eight : length s.words ≡ 8) where
  -- The stack keeps its eight words.
  pub push_length : (word : ℕ) → length (push_of s word).words ≡ 8
  unfolding push_of
  push_length word = simp length-take (omega arith)

  pub pop_length : length (pop_of s).words ≡ 8
  unfolding pop_of
  pop_length = simp (length-append, length-drop) (omega arith)

  -- .. and leaves the stack as it was before the push, but for its eighth word.
  pub pop_push : (word : ℕ) → take 7 (pop_of (push_of s word)).words ≡ take 7 s.words
  unfolding pop_of push_of
  pop_push word = take_at (take 7 s.words) _ 7 (simp length-take (omega arith))
