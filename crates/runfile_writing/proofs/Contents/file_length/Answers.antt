-- Not routine: the file's length follows from its three counts, and each is at most its limit.
use Rattle.std.proofs.Common.{arith, sym, ◌∙◌}
use Rattle.runfile_writing.specs.WritingLaws.{counts_within, length_within}
use Rattle.runfile_writing.proofs.Contents.file_length.Goals as goal

pub overflow_cast-program_count : goal.overflow_cast-program_count
overflow_cast-program_count c = omega (arith, (counts_within _ _ _ _ c.self.view_is c.requires).program_most)

pub overflow_cast-data_count : goal.overflow_cast-data_count
overflow_cast-data_count c = omega (arith, (counts_within _ _ _ _ c.self.view_is c.requires).data_most)

pub overflow_cast-input_count : goal.overflow_cast-input_count
overflow_cast-input_count c = omega (arith, (counts_within _ _ _ _ c.self.view_is c.requires).input_most)

pub returns : goal.returns
returns c = c.file_length.ensures ∙ sym (length_within _ _ _ _ c.self.view_is c.requires)
