-- The rule of the family: each case by its page.
use Rattle.std.specs.Prelude.{ℕ}
use Rattle.machine.specs.declared.Machine.{Machine}
use Rattle.instructions.specs.declared.Branches.{Branches}
use Rattle.instructions.specs.declared.Branches.TheVariants as Page
use Rattle.pages.specs.declared.Effect.{Effect}
use Rattle.pages.specs.BranchesPages.{B, BANZ, BZ, BNZ, BGZ, BGEZ, BLZ, BLEZ, BV, BNV, CALL, RET}

unfoldable pub branches_rule : Branches → Machine → Machine → ℕ → Effect
branches_rule (Page.B operand) before m pma = B pma m
branches_rule (Page.Banz operand) before m pma = BANZ before pma m
branches_rule (Page.Bz operand) before m pma = BZ pma m
branches_rule (Page.Bnz operand) before m pma = BNZ pma m
branches_rule (Page.Bgz operand) before m pma = BGZ pma m
branches_rule (Page.Bgez operand) before m pma = BGEZ pma m
branches_rule (Page.Blz operand) before m pma = BLZ pma m
branches_rule (Page.Blez operand) before m pma = BLEZ pma m
branches_rule (Page.Bv operand) before m pma = BV pma m
branches_rule (Page.Bnv operand) before m pma = BNV pma m
branches_rule (Page.Call operand) before m pma = CALL pma m
branches_rule Page.Ret before m pma = RET m
