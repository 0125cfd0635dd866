-- One rule for every instruction, by its family.
use Rattle.machine.specs.declared.Machine.{Machine}
use Rattle.instructions.specs.declared.Instruction.{Instruction}
use Rattle.instructions.specs.declared.Instruction.TheVariants.{Accumulator, Multiplier, Auxiliary, Branches, Transfers, Modes}
use Rattle.pages.specs.declared.Effect.{Effect}
use Rattle.pages.specs.AccumulatorRule.{accumulator_rule}
use Rattle.pages.specs.MultiplierRule.{multiplier_rule}
use Rattle.pages.specs.AuxiliaryRule.{auxiliary_rule}
use Rattle.pages.specs.BranchesRule.{branches_rule}
use Rattle.pages.specs.TransfersRule.{transfers_rule}
use Rattle.pages.specs.ModesRule.{modes_rule}
use Rattle.pages.specs.declared.Words.{Words}

-- `before` is the machine before the operand's modification and m the machine after it
unfoldable pub rule_of : Instruction → Machine → Machine → Words → Effect
rule_of (Accumulator i) before m words = accumulator_rule i m words.operand
rule_of (Multiplier i) before m words = multiplier_rule i m words.operand words.table words.at
rule_of (Auxiliary i) before m words = auxiliary_rule i before m words.operand
rule_of (Branches i) before m words = branches_rule i before m words.second
rule_of (Transfers i) before m words = transfers_rule i m words.operand words.next
rule_of (Modes i) before m words = modes_rule i m words.operand
