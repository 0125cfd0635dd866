-- The longest line that `replay` prints.
use Rattle.std.specs.Prelude.{◌≡◌, List, ◌++◌, ℕ, ◌+◌, ◌*◌, ◌≤◌, length, drop}
use Rattle.runfile.specs.Facts.{Below}
use Rattle.line_fields.specs.Placing.{line_in, length_in}
use Rattle.replay_line.specs.Replay.{replay_line}

-- an answer of 2 digits, steps of 5, PC of 4, ACC of 8 and OV of 1, with the four spaces between them; 1,024 words sent, each a space and 4 digits; the newline
abbrev pub longest_line : ℕ
longest_line = 2 + 5 + 4 + 8 + 1 + 4 + 1024 * 5 + 1

-- no file has a longer line
abbrev pub LineWithin : Type 0
LineWithin = (bytes : List ℕ) → Below 256 bytes → length (replay_line bytes) ≤ longest_line

-- so that lent bytes of that number hold the line of any file, whole
abbrev pub LineWhole : Type 0
LineWhole = (bytes lent : List ℕ) → Below 256 bytes → longest_line ≤ length lent
    → (length_in (replay_line bytes) lent ≡ length (replay_line bytes)) × (line_in (replay_line bytes) lent ≡ replay_line bytes ++ drop (length (replay_line bytes)) lent)
