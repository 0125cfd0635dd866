-- How the calls of a function make what its contract says.
use Rattle.std.specs.Prelude.{◌≡◌, true, false, List, ℕ, length}
use Rattle.std.proofs.Math.Path.{sym}
use Rattle.std.proofs.Common.{◌∙◌}
use Rattle.answers.specs.Numbers.{is_done}
use Rattle.answers.proofs.NumberLaws.{done_is}
use Rattle.runfile.specs.Files.{Contents, file_length, contents_fit}
use Rattle.runfile.specs.Facts.{CountsKept}
use Rattle.runfile.specs.FileLaws.{counts_facts, file_length_lem}
use Rattle.runfile_writing.specs.Writing.{write_answer}
use Rattle.runfile_writing.specs.WritingLaws.{write_facts}
use Rattle.c_file_writing.specs.WriteCalls.{written_count}

module _ (c : Contents) (bytes : List ℕ) where
  pub none_written : is_done (write_answer c bytes) ≡ false → 0 ≡ written_count c bytes
  unfolding written_count
  none_written h = simp h

  pub counts_written : is_done (write_answer c bytes) ≡ true → CountsKept (length c.program) (length c.data_words) (length c.input)
  unfolding contents_fit
  counts_written h = counts_facts _ _ _ (write_facts c bytes (done_is _ h)).0

  pub bytes_written : is_done (write_answer c bytes) ≡ true → {n : ℕ} → n ≡ file_length (length c.program) (length c.data_words) (length c.input)
      → n ≡ written_count c bytes
  unfolding written_count
  bytes_written h e = simp h (e ∙ sym (file_length_lem c))
