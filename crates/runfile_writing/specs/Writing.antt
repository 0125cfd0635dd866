-- Writing a run file into lent bytes.
use Rattle.std.specs.Prelude.{cond, List, ◌++◌, ℕ, leb, length, drop}
use Rattle.answers.specs.Answers.{Answer}
use Rattle.answers.specs.Answers.{Done, FileRules, FileNoRoom}
use Rattle.answers.specs.Numbers.{is_done}
use Rattle.runfile.specs.Files.{Contents, file_of, contents_fit}

abbrev pub contents : List ℕ → List ℕ → List ℕ → ℕ → Contents
contents program data_words input budget =
    record { program = program; data_words = data_words; input = input; budget = budget }

-- "writing: 22, then 23"; the exact length fits (ruling R34)
unfoldable pub write_answer : Contents → List ℕ → Answer
write_answer c bytes =
    cond (contents_fit c)
    (cond (leb (length (file_of c)) (length bytes)) Done
    FileNoRoom)
    FileRules

-- "a refused write puts down no byte, and a write done changes none past the file's end"
unfoldable pub written : Contents → List ℕ → List ℕ
written c bytes =
    cond (is_done (write_answer c bytes)) (file_of c ++ drop (length (file_of c)) bytes) bytes
