use lib.ListN.{take}
use Rattle.std.proofs.lemmas.List.Edits.{sets}
use Rattle.std.proofs.Common.{◌≡◌}
use Rattle.c_cells.proofs.storing.put_eight.Given as goal

-- the first k words of the run are stored
abbrev pub invariant-loop-k : goal.invariant-loop-k
invariant-loop-k l = l.cells ≡ sets l.initial.cells l.at (take l.k l.words)
