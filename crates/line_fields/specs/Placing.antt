-- A line in lent bytes.
use Rattle.std.specs.Prelude.{cond, List, ◌++◌, ℕ, leb, length, drop}

abbrev pub space : ℕ
space = 32

abbrev pub newline : ℕ
newline = 10

-- a line at the start of lent bytes, and nothing past its end; where it does not fit, nothing is put down
unfoldable pub line_in : List ℕ → List ℕ → List ℕ
line_in line bytes = cond (leb (length line) (length bytes)) (line ++ drop (length line) bytes) bytes

-- how many bytes of it were put down
unfoldable pub length_in : List ℕ → List ℕ → ℕ
length_in line bytes = cond (leb (length line) (length bytes)) (length line) 0
