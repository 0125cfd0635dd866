-- Not routine: answer 0 means that the three counts are within a file's limits, so that file_bytes may be asked.
use Rattle.std.proofs.Common.{sym, ap}
use Rattle.answers.specs.Numbers.{is_done}
use Rattle.c_file_writing.specs.CallLaws.{counts_written}
use Rattle.runfile_writing.specs.Writing.{contents}
use Rattle.c_file_writing.proofs.write_counted.Goals as goal

pub file_bytes-requires : goal.file_bytes-requires
file_bytes-requires c =
    counts_written (contents c.args.program.now c.args.«data».now c.args.input.now c.args.budget) c.args.bytes.now (sym (ap is_done c.in-Ok.ensures.answered))
