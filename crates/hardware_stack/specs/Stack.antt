-- The stack: push and pop.
use Rattle.std.specs.Prelude.{[], ◌∷◌, ◌++◌, ℕ, take, drop, get_or}
use Rattle.hardware_stack.specs.declared.Stack.{Stack}

-- "Push moves each word one down and loses the eighth."
unfoldable pub push_of : Stack → ℕ → Stack
push_of s word = record { words = word ∷ take 7 s.words }

-- "Pop moves each word one up; the eighth keeps its value."
unfoldable pub pop_of : Stack → Stack
pop_of s = record { words = drop 1 s.words ++ (get_or s.words 7 0 ∷ []) }

-- the word that a pop gives
unfoldable pub top_of : Stack → ℕ
top_of s = get_or s.words 0 0
