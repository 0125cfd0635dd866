-- How many bytes a call that writes a run file counts.
use Rattle.std.specs.Prelude.{cond, List, ℕ, length}
use Rattle.answers.specs.Numbers.{is_done}
use Rattle.runfile.specs.Files.{Contents, file_of}
use Rattle.runfile_writing.specs.Writing.{write_answer}

-- the bytes of a file that was written
unfoldable pub written_count : Contents → List ℕ → ℕ
written_count c bytes = cond (is_done (write_answer c bytes)) (length (file_of c)) 0
