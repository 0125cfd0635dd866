-- Operands: their addresses and their modifications (document 01, "Direct operand" and "Indirect").
use Rattle.std.specs.Prelude.{ℕ, ◌+◌, ◌*◌, Option, Some, None}
use Rattle.alu.specs.Registers.{wrapped_sum, wrapped_difference, reversed_sum, reversed_difference}
use Rattle.machine.specs.declared.Machine.{Machine}
use Rattle.machine.specs.Cells.{with_arp, with_arb, register, with_register}
use Rattle.operands.specs.declared.Modification.{Modification}
use Rattle.operands.specs.declared.Modification.TheVariants.{Minus, Plus, MinusReversed, MinusIndex, PlusIndex, PlusReversed}
use Rattle.operands.specs.declared.Indirect.{Indirect}
use Rattle.operands.specs.declared.Address.{Address}
use Rattle.operands.specs.declared.Address.TheVariants as Mode

-- the register that ARP points at, with AR0 as the index
unfoldable pub moved : Modification → ℕ → ℕ → ℕ
moved Modification.None ar index = ar
moved Minus ar index = wrapped_difference ar 1
moved Plus ar index = wrapped_sum ar 1
moved MinusReversed ar index = reversed_difference ar index
moved MinusIndex ar index = wrapped_difference ar index
moved PlusIndex ar index = wrapped_sum ar index
moved PlusReversed ar index = reversed_sum ar index

-- "ARB takes the old ARP and ARP takes bits 2 to 0"
unfoldable pub pointed : Option ℕ → Machine → Machine
pointed None m = m
pointed (Some arp) m = with_arp (with_arb m m.arp) arp

-- the modification of the old register first, then ARB and ARP
unfoldable pub modified : Indirect → Machine → Machine
modified operand m =
    pointed operand.next
    (with_register m m.arp (moved operand.modification (register m m.arp) (register m 0)))

-- the machine after an operand's modification: a direct one has none
unfoldable pub addressed : Option Address → Machine → Machine
addressed None m = m
addressed (Some (Mode.Direct offset)) m = m
addressed (Some (Mode.Indirect operand)) m = modified operand m

-- direct: "128 x DP + bits 6 to 0"; indirect: "AR(ARP)"
unfoldable pub address_of : Option Address → Machine → ℕ
address_of None m = 0
address_of (Some (Mode.Direct offset)) m = m.dp * 128 + offset
address_of (Some (Mode.Indirect operand)) m = register m m.arp
