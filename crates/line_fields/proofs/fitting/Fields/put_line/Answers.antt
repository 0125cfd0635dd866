-- Not routine: room for the whole is room for each part where the one before it ended, and the parts put down in turn make the whole.
use Rattle.std.proofs.Common.{◌≡◌, ap}
use Rattle.line_fields.specs.Facts.{Fields}
use Rattle.line_fields.proofs.Cells.{whole_put}
use Rattle.line_fields.proofs.fitting.Fields.put_line.Goals as goal

pub returns : goal.returns
returns c =
    let e : c.self.inside.words.now ≡ c.args.self.now.words = ap (λ (f : Fields). f.words) c.self.view_is in
    whole_put _ _ _ _ _ _ c.requires c.put_cells.ensures (rw e at c.word_fields.ensures) c.byte.ensures
