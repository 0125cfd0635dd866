-- What the functions that put text down promise and ask, by name.
use Rattle.std.specs.Prelude.{◌≡◌, List, [], ◌∷◌, ◌++◌, ℕ, ◌+◌, ◌≤◌, length, take}
use Rattle.std.proofs.lemmas.List.Edits.{sets}
use Rattle.line_digits.specs.Digits.{hexadecimal, decimal}
use Rattle.line_fields.specs.Placing.{space, newline}

-- the text stands from a place on, the next place is where it ends, and nothing else has changed
pub record Put (before : List ℕ) (at : ℕ) (text after : List ℕ) (next : ℕ) : Type 0 where
  pub stored : after ≡ sets before at text
  pub ends : next ≡ at + length text

-- there is room for a text from a place on
pub record Room (bytes : List ℕ) (at : ℕ) (text : List ℕ) : Type 0 where
  pub fits : at + length text ≤ length bytes

-- each word as a field with its space in front
unfoldable pub word_fields : List ℕ → List ℕ
word_fields [] = []
word_fields (word ∷ words) = (space ∷ hexadecimal 4 word) ++ word_fields words

-- the answer and the cells, in the order in which they are put down
unfoldable pub cell_fields : ℕ → ℕ → ℕ → ℕ → ℕ → List ℕ
cell_fields answer steps pc acc ov =
    (((decimal answer ++ (space ∷ decimal steps)) ++ (space ∷ hexadecimal 4 pc)) ++ (space ∷ hexadecimal 8 acc)) ++ (space ∷ decimal ov)

unfoldable pub line_put : ℕ → ℕ → ℕ → ℕ → ℕ → List ℕ → List ℕ
line_put answer steps pc acc ov words = (cell_fields answer steps pc acc ov ++ word_fields words) ++ (newline ∷ [])

-- the fields of a line by name, and the line of them
pub record Fields : Type 0 where
  pub answer : ℕ
  pub steps : ℕ
  pub pc : ℕ
  pub acc : ℕ
  pub ov : ℕ
  pub words : List ℕ

abbrev pub cells_of : Fields → List ℕ
cells_of f = cell_fields f.answer f.steps f.pc f.acc f.ov

abbrev pub line_of_fields : Fields → List ℕ
line_of_fields f = line_put f.answer f.steps f.pc f.acc f.ov f.words

-- the words that were put down so far
pub record WordsPut (words before : List ℕ) (at k : ℕ) (after : List ℕ) (next : ℕ) : Type 0 where
  pub reached : k ≤ length words
  pub so_far : Put before at (word_fields (take k words)) after next
