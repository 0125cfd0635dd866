-- Not routine: room for the whole is room for each part where the one before it ended, and the parts put down in turn make the whole.
use Rattle.line_fields.proofs.Cells.{cells_put}
use Rattle.line_fields.proofs.fitting.Fields.put_cells.Goals as goal

pub returns : goal.returns
returns c = rw (← c.self.view_is) (cells_put _ _ _ _ _
    (rw (← c.self.view_is) at c.requires)
    c.decimal.ensures
    c.decimal_field.ensures
    c.word_field.ensures
    c.long_field.ensures
    c.decimal_field-2.ensures)
