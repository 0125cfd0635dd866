-- Not routine: a run of stores is what a copy into the part of the slice leaves.
use Rattle.std.proofs.Common.{refl, sym, ◌∙◌, arith}
use Rattle.std.proofs.lemmas.List.Edits.{sets-eq}
use Rattle.std.proofs.lemmas.Slice.{put_mid-paste}
use Rattle.std.proofs.Math.Seq.{take-length}
use Rattle.c_cells.proofs.storing.put_numbers.Goals as goal

pub returns : goal.returns
returns c =
    put_mid-paste c.args.at _ c.args.cells.now _ c.args.numbers.now _ c.copy_from_slice.ensures.after (omega arith) refl
    ∙ rw take-length (sym (sets-eq c.args.numbers.now c.args.cells.now c.args.at c.requires))
