-- The control pages: modes, repeats, PUSH and POP. The machine is that after the operand's modification, w the data word that was read.
use Rattle.std.specs.Prelude.{ℕ, ◌%◌, ◌^◌}
use Rattle.alu.specs.Word.{low_half}
use Rattle.machine.specs.declared.Machine.{Machine}
use Rattle.machine.specs.Cells.{with_acc, with_ovm, with_sxm, with_cnf, with_rptc}
use Rattle.machine.specs.Stack.{push_on, pop_on}

-- "1 -> overflow mode (OVM) status bit", and "0" for ROVM (ruling R6)
unfoldable pub SOVM : Machine → Machine
SOVM m = with_ovm m 1

unfoldable pub ROVM : Machine → Machine
ROVM m = with_ovm m 0

-- "1 -> SXM status bit", and "0 -> SXM"
unfoldable pub SSXM : Machine → Machine
SSXM m = with_sxm m 1

unfoldable pub RSXM : Machine → Machine
RSXM m = with_sxm m 0

-- CNFD: block B0 is data memory, "0 -> CNF"; CNFP: it is program memory, "1 -> CNF"
unfoldable pub CNFD : Machine → Machine
CNFD m = with_cnf m 0

unfoldable pub CNFP : Machine → Machine
CNFP m = with_cnf m 1

-- "(dma(7-0)) -> RPTC"
unfoldable pub RPT : ℕ → Machine → Machine
RPT w m = with_rptc m (w % 2 ^ 8)

-- "Constant -> RPTC"
unfoldable pub RPTK : ℕ → Machine → Machine
RPTK k m = with_rptc m k

-- "Push all stack locations down one level. (ACC(15-0)) -> TOS"
unfoldable pub PUSH : Machine → Machine
PUSH m = push_on m (low_half m.acc)

-- "(TOS) -> ACC(15-0), 0 -> ACC(31-16). Pop stack one level"
unfoldable pub POP : Machine → Machine
POP m = with_acc (pop_on m).m (pop_on m).word
