-- Not routine: the five parts, each stored where the one before it ended, fill the slice, so that nothing of what it held is left.
use mathlib.Core.Path.{refl}
use Rattle.c_cells.specs.Cells.{cells_of}
use Rattle.c_cells.specs.StoreLaws.{parts_put}
use Rattle.c_cells.proofs.storing.put_all.Goals as goal

pub returns : goal.returns
unfolding cells_of
returns c = parts_put _ _ _ _ _ refl refl refl
    c.requires
    c.first_cells.ensures
    (refl, c.put_eight.ensures.1)
    c.pointer_cells.ensures
    (refl, c.put_eight-2.ensures.1)
    c.last_cells.ensures
    c.put_numbers.ensures
    c.put_eight.ensures.0
    c.put_numbers-2.ensures
    c.put_eight-2.ensures.0
    c.put_numbers-3.ensures
