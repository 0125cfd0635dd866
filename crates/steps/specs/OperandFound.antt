-- The operand of a pass: what is found at its address, and what its access counts in external RAM (document 02, request 7).
use Rattle.std.specs.Prelude.{List, ℕ}
use Rattle.machine.specs.declared.Machine.{Machine}
use Rattle.pages.specs.declared.Access.{Access}
use Rattle.pages.specs.declared.Traits.{Traits}
use Rattle.pages.specs.Addressing.{address_of}
use Rattle.board.specs.declared.Region.{Region}
use Rattle.board.specs.declared.Region.TheVariants.{Absent}
use Rattle.board.specs.declared.Found.{Found}
use Rattle.board.specs.Regions.{data_region, access_outside}
use Rattle.board.specs.Finding.{found_at}
use Rattle.steps.specs.declared.Outside.{Outside}

-- A page that makes no access does not look, and one that only writes is handed no word.
unfoldable pub operand_found : Access → ℕ → List ℕ → ℕ → Found
operand_found Access.None cnf «data» address = record { word = 0; region = Absent }
operand_found Access.Reads cnf «data» address = found_at cnf «data» address
operand_found Access.Writes cnf «data» address = record { word = 0; region = data_region cnf address }

-- what a pass finds, once: its refusals, its words and its store go by it
unfoldable pub found_for : Traits → List ℕ → Machine → Found
found_for t «data» m = operand_found t.access m.cnf «data» (address_of t.operand m)

abbrev pub none_outside : Outside
none_outside = record { reads = 0; writes = 0 }

-- A page reads its operand's word once, however often it names it (ruling X1), or writes it once.
unfoldable pub outside_by : Access → Region → Outside
outside_by Access.None region = none_outside
outside_by Access.Reads region = record { reads = access_outside region; writes = 0 }
outside_by Access.Writes region = record { reads = 0; writes = access_outside region }
