-- The accumulator's pages. Each definition is named as its page, and gives the machine after it, or the word that it stores.
-- The machine is that after the operand's modification, w the data word that was read.
use Rattle.std.specs.Prelude.{ℕ}
use Rattle.alu.specs.Sums.{added, subtracted}
use Rattle.alu.specs.PageSums.{added_high, subtracted_high, subtracted_conditionally, negated, absolute, in_high_half}
use Rattle.alu.specs.Shifts.{operand, unsigned_operand, stored_low, stored_high, left_by_one, right_by_one}
use Rattle.alu.specs.Logic.{anded, ored, xored, complemented}
use Rattle.alu.specs.declared.Shifted.{Shifted}
use Rattle.machine.specs.declared.Machine.{Machine}
use Rattle.machine.specs.Cells.{with_acc, with_c}
use Rattle.pages.specs.Passes.{with_sum}

-- "(ACC) + [(dma) x 2^shift] -> ACC. Affects OV; affected by OVM and SXM. Affects C"
unfoldable pub ADD : ℕ → ℕ → Machine → Machine
ADD shift w m = with_sum m (added m.acc (operand w shift m.sxm) m.ov m.ovm)

-- "(ACC) - [(dma) x 2^shift] -> ACC"
unfoldable pub SUB : ℕ → ℕ → Machine → Machine
SUB shift w m = with_sum m (subtracted m.acc (operand w shift m.sxm) m.ov m.ovm)

-- "(dma) x 2^shift -> ACC. Affected by SXM"
unfoldable pub LAC : ℕ → ℕ → Machine → Machine
LAC shift w m = with_acc m (operand w shift m.sxm)

-- "(ACC) + [(dma) x 2^16] -> ACC"
unfoldable pub ADDH : ℕ → Machine → Machine
ADDH w m = with_sum m (added_high m.acc w m.ov m.ovm m.c)

-- "(ACC) + (dma) -> ACC; (dma) is a 16-bit unsigned number"
unfoldable pub ADDS : ℕ → Machine → Machine
ADDS w m = with_sum m (added m.acc (unsigned_operand w) m.ov m.ovm)

-- "(ACC) - [(dma) x 2^16] -> ACC"
unfoldable pub SUBH : ℕ → Machine → Machine
SUBH w m = with_sum m (subtracted_high m.acc w m.ov m.ovm m.c)

-- "(ACC) - (dma) -> ACC"; the word "is treated as a 16-bit unsigned number"
unfoldable pub SUBS : ℕ → Machine → Machine
SUBS w m = with_sum m (subtracted m.acc (unsigned_operand w) m.ov m.ovm)

-- "(ACC) - [(dma) x 2^15] -> ALU output", and ACC by its sign; "is affected by SXM"
unfoldable pub SUBC : ℕ → Machine → Machine
SUBC w m = with_sum m (subtracted_conditionally m.acc (operand w 15 m.sxm) m.ov)

-- "0 -> ACC(15-0), (dma) -> ACC(31-16)"
unfoldable pub ZALH : ℕ → Machine → Machine
ZALH w m = with_acc m (in_high_half w)

-- "0 -> ACC(31-16), (dma) -> ACC(15-0)"
unfoldable pub ZALS : ℕ → Machine → Machine
ZALS w m = with_acc m (unsigned_operand w)

unfoldable pub AND : ℕ → Machine → Machine
AND w m = with_acc m (anded m.acc w)

unfoldable pub OR : ℕ → Machine → Machine
OR w m = with_acc m (ored m.acc w)

unfoldable pub XOR : ℕ → Machine → Machine
XOR w m = with_acc m (xored m.acc w)

-- the words that SACL and SACH store
unfoldable pub SACL : ℕ → Machine → ℕ
SACL shift m = stored_low m.acc shift

unfoldable pub SACH : ℕ → Machine → ℕ
SACH shift m = stored_high m.acc shift

-- "8-bit positive constant -> ACC"
unfoldable pub LACK : ℕ → Machine → Machine
LACK k m = with_acc m k

-- "(ACC) + 8-bit positive constant -> ACC"
unfoldable pub ADDK : ℕ → Machine → Machine
ADDK k m = with_sum m (added m.acc k m.ov m.ovm)

-- "(ACC) - 8-bit positive constant -> ACC"
unfoldable pub SUBK : ℕ → Machine → Machine
SUBK k m = with_sum m (subtracted m.acc k m.ov m.ovm)

unfoldable pub CMPL : Machine → Machine
CMPL m = with_acc m (complemented m.acc)

unfoldable pub NEG : Machine → Machine
NEG m = with_sum m (negated m.acc m.ov m.ovm)

unfoldable pub ABS : Machine → Machine
ABS m = with_sum m (absolute m.acc m.ov m.ovm)

-- ACC and C after a shift by one place
abbrev pub with_shifted : Machine → Shifted → Machine
with_shifted m s = with_c (with_acc m s.acc) s.c

unfoldable pub SFL : Machine → Machine
SFL m = with_shifted m (left_by_one m.acc)

unfoldable pub SFR : Machine → Machine
SFR m = with_shifted m (right_by_one m.acc m.sxm)
