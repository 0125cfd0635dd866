use Rattle.std.proofs.Common.{arith, sym, ◌∙◌}
use Rattle.runfile_writing.specs.WritingLaws.{write_rules, write_no_room, write_done}
use Rattle.runfile_writing.proofs.write_file.Goals as goal

pub returns-then-not-fit : goal.returns-then-not-fit
returns-then-not-fit c =
    let h = write_rules _ c.args.bytes.now (sym c.fit.ensures ∙ c.if-not-fit.true) in
    record { answered = h.0; lent_bytes = h.1 }

pub returns-then-bytes-file_length : goal.returns-then-bytes-file_length
returns-then-bytes-file_length c =
    let h = write_no_room _ c.args.bytes.now (sym c.fit.ensures ∙ c.if-not-fit.false) (omega (arith, c.if-bytes-file_length.true, c.file_length.ensures)) in
    record { answered = h.0; lent_bytes = h.1 }

pub returns : goal.returns
returns c =
    let h = write_done _ c.args.bytes.now _ (sym c.fit.ensures ∙ c.if-not-fit.false) (omega (arith, c.if-bytes-file_length.false, c.file_length.ensures)) c.put.ensures in
    record { answered = h.0; lent_bytes = h.1 }
