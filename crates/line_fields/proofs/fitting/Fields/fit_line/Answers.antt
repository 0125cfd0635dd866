-- Not routine: with five bytes for each word, the two tests together are the definition's one: whether the whole line fits.
use Rattle.std.proofs.Common.{rules}
use Rattle.line_fields.specs.PlacingLaws.{words_spill, cells_spill, line_room, line_put_lem}
use Rattle.line_fields.specs.Writing.{line_wrote}
use Rattle.line_fields.proofs.fitting.Fields.fit_line.Goals as goal

pub returns-then-bytes-self : goal.returns-then-bytes-self
returns-then-bytes-self c = rw (← c.self.view_is) (words_spill _ _ _ _ _ _ _ c.if-bytes-self.true)

pub returns-then-bytes-self-2 : goal.returns-then-bytes-self-2
returns-then-bytes-self-2 c = rw (← c.self.view_is) (cells_spill _ _ _ _ _ _ _ (rw (← c.self.view_is) at c.cells_length.ensures) c.if-bytes-self.false c.if-bytes-self-2.true)

pub put_line-requires : goal.put_line-requires
put_line-requires c = record { room = rw (← c.self.view_is) (line_room _ _ _ _ _ _ _ (rw (← c.self.view_is) at c.cells_length.ensures) c.if-bytes-self.false c.if-bytes-self-2.false) }

pub returns : goal.returns
returns c = line_wrote c.put_line.new.writer _ _ (rw (← c.self.view_is) (line_put_lem _ _ _ _ _ _ _
    (rw (← c.self.view_is) at c.cells_length.ensures)
    c.if-bytes-self.false
    c.if-bytes-self-2.false
    (rw (← c.self.view_is) at c.put_line.ensures.put))) (search rules)
