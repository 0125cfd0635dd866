-- The one line of a run, as bytes (document 01, "The run file and its one line").
use Rattle.std.specs.Prelude.{List, [], ◌∷◌, ◌++◌, map, ℕ}
use Rattle.line_digits.specs.Digits.{hexadecimal, decimal}
use Rattle.line_fields.specs.Placing.{space, newline}
use Rattle.machine.specs.declared.Machine.{Machine}
use Rattle.answers.specs.Answers.{Answer}
use Rattle.answers.specs.Numbers.{number_of}
use Rattle.board.specs.Windows.{words_sent}

-- "parted by one space, .. one newline"
unfoldable pub parted : List (List ℕ) → List ℕ
parted [] = newline ∷ []
parted (field ∷ []) = field ++ (newline ∷ [])
parted (field ∷ next ∷ fields) = field ++ (space ∷ parted (next ∷ fields))

-- "answer and steps in decimal, PC as 4 hexadecimal digits, ACC as 8, OV, then each word sent as 4"
unfoldable pub line_of : Answer → ℕ → Machine → List ℕ → List ℕ
line_of answer steps m output =
    parted
    (decimal (number_of answer)
    ∷ decimal steps
    ∷ hexadecimal 4 m.pc
    ∷ hexadecimal 8 m.acc
    ∷ decimal m.ov
    ∷ map (hexadecimal 4) (words_sent m output))

-- "A refused file prints its number alone and a newline."
unfoldable pub refused_line : Answer → List ℕ
refused_line answer = parted (decimal (number_of answer) ∷ [])
