-- A table of answers: one row for each line of the order in document 01, as document 02 changes it, with its words in that order, an answer, and whether its condition holds.
use Rattle.std.specs.Prelude.{◌≡◌, Bool, false, cond, List, [], ◌∷◌}
use Prim.Native.String.{String}
use lib.Text.{eqt}
use Rattle.answers.specs.Answers.{Answer}
use Rattle.answers.specs.Answers.{Done}

pub record Row : Type 0 where
  pub name : String
  pub answer : Answer
  pub given : Bool

abbrev pub row : String → Answer → Bool → Row
row name answer given = record { name = name; answer = answer; given = given }

-- the answer of the first row that holds, and Done where none does
unfoldable pub first_given : List Row → Answer
first_given [] = Done
first_given (r ∷ rows) = cond r.given r.answer (first_given rows)

-- no row's condition holds
abbrev pub NoneHolds : List Row → Type 0
NoneHolds [] = Unit {0}
NoneHolds (r ∷ rows) = (r.given ≡ false) × NoneHolds rows

-- whether the row of a name holds
abbrev pub holds_at : List Row → String → Bool
holds_at [] name = false
holds_at (r ∷ rows) name = cond (eqt r.name name) r.given (holds_at rows name)
