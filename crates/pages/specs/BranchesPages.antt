-- The pages of branches, CALL and RET. `before` is the machine before the operand's modification and m the machine after it; pma is the second word.
-- Where no jump is made PC moves past the instruction's words, as after every pass.
use Rattle.std.specs.Prelude.{Bool, not, cond, ℕ, eqb, pos}
use Rattle.std.specs.Int.Signed.{le_z, lt_z}
use Rattle.alu.specs.Word.{signed}
use Rattle.alu.specs.Registers.{wrapped_sum}
use Rattle.machine.specs.declared.Machine.{Machine}
use Rattle.machine.specs.Cells.{with_ov, register}
use Rattle.machine.specs.Stack.{push_on, pop_on}
use Rattle.pages.specs.declared.Effect.{Effect}
use Rattle.pages.specs.Passes.{kept, jumped}

-- "If .. : Then pma -> PC; Else (PC) + 2 -> PC"
unfoldable pub branched : Bool → ℕ → Machine → Effect
branched test pma m = cond test (jumped m pma) (kept m)

-- "pma -> PC"
unfoldable pub B : ℕ → Machine → Effect
B pma m = jumped m pma

-- "If AR(ARP) is not 0", by the register and the ARP before the modification (ruling R26)
unfoldable pub BANZ : Machine → ℕ → Machine → Effect
BANZ before pma m = branched (not (eqb (register before before.arp) 0)) pma m

-- "If (ACC) = 0", and BNZ with the test turned round (ruling R6)
unfoldable pub BZ : ℕ → Machine → Effect
BZ pma m = branched (eqb m.acc 0) pma m

unfoldable pub BNZ : ℕ → Machine → Effect
BNZ pma m = branched (not (eqb m.acc 0)) pma m

-- "If (ACC) > 0", and so on: ACC is a signed number
unfoldable pub BGZ : ℕ → Machine → Effect
BGZ pma m = branched (lt_z (pos 0) (signed 32 m.acc)) pma m

unfoldable pub BGEZ : ℕ → Machine → Effect
BGEZ pma m = branched (le_z (pos 0) (signed 32 m.acc)) pma m

unfoldable pub BLZ : ℕ → Machine → Effect
BLZ pma m = branched (lt_z (signed 32 m.acc) (pos 0)) pma m

unfoldable pub BLEZ : ℕ → Machine → Effect
BLEZ pma m = branched (le_z (signed 32 m.acc) (pos 0)) pma m

-- "If overflow (OV) status bit = 1", or 0 for BNV; both leave OV 0, taken or not (ruling R23)
unfoldable pub BV : ℕ → Machine → Effect
BV pma m = branched (eqb m.ov 1) pma (with_ov m 0)

unfoldable pub BNV : ℕ → Machine → Effect
BNV pma m = branched (eqb m.ov 0) pma (with_ov m 0)

-- "(PC) + 2 -> TOS, pma -> PC"
unfoldable pub CALL : ℕ → Machine → Effect
CALL pma m = jumped (push_on m (wrapped_sum m.pc 2)) pma

-- "(TOS) -> PC. Pop stack one level"
unfoldable pub RET : Machine → Effect
RET m = jumped (pop_on m).m (pop_on m).word
