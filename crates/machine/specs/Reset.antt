-- The machine after reset: each cell holds what the table of cells has for it (guide, section 3.6.3).
use Rattle.std.specs.Prelude.{replicate}
use Rattle.machine.specs.declared.Machine.{Machine}
use Rattle.machine.specs.Table.{count_of, reset_of}
use Rattle.machine.specs.Cells.{built}

unfoldable pub reset_machine : Machine
reset_machine = built (λ name field. reset_of name) (λ name field. replicate (count_of name) (reset_of name))
