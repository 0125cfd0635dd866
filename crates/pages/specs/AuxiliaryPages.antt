-- The pages of the auxiliary registers and the data page pointer. `before` is the machine before the operand's modification and m the machine after it;
-- w is the data word that was read.
use Rattle.std.specs.Prelude.{ℕ, ◌%◌, ◌^◌}
use Rattle.alu.specs.Registers.{wrapped_sum, wrapped_difference}
use Rattle.machine.specs.declared.Machine.{Machine}
use Rattle.machine.specs.Cells.{with_dp, register, with_register}

-- "(dma) -> auxiliary register AR": "LAR loads after the modification" (document 01)
unfoldable pub LAR : ℕ → ℕ → Machine → Machine
LAR r w m = with_register m r w

-- the word that SAR stores: "SAR stores the value before it"
unfoldable pub SAR : ℕ → Machine → ℕ
SAR r before = register before r

-- "8-bit constant -> auxiliary register AR"
unfoldable pub LARK : ℕ → ℕ → Machine → Machine
LARK r k m = with_register m r k

-- "Modifies ARP, AR(ARP) as specified by the indirect addressing field"
unfoldable pub MAR : Machine → Machine
MAR m = m

-- "AR(ARP) + 8-bit positive constant -> AR(ARP)"
unfoldable pub ADRK : ℕ → Machine → Machine
ADRK k m = with_register m m.arp (wrapped_sum (register m m.arp) k)

-- "AR(ARP) - 8-bit positive constant -> AR(ARP)"
unfoldable pub SBRK : ℕ → Machine → Machine
SBRK k m = with_register m m.arp (wrapped_difference (register m m.arp) k)

-- "Nine LSBs of (dma) -> data page pointer register (DP)"
unfoldable pub LDP : ℕ → Machine → Machine
LDP w m = with_dp m (w % 2 ^ 9)

-- "Constant -> data memory page pointer (DP)"
unfoldable pub LDPK : ℕ → Machine → Machine
LDPK k m = with_dp m k
