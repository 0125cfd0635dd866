-- Which page has a word, by the page's place in a list.
use Rattle.std.specs.Prelude.{Bool, false, List, [], ◌∷◌, ℕ, zero, suc}
use Rattle.instructions.specs.Encoding.{Page, has}

-- the page at a place has the word
abbrev pub has_at : List Page → ℕ → ℕ → Bool
has_at [] p w = false
has_at (r ∷ rs) zero w = has r w
has_at (r ∷ rs) (suc p) w = has_at rs p w
