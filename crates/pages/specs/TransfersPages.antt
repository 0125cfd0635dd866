-- The pages of DMOV, IN and OUT. The machine is that after the operand's modification, w the data word that was read.
use Rattle.std.specs.Prelude.{ℕ}
use Rattle.alu.specs.Registers.{wrapped_sum}
use Rattle.machine.specs.declared.Machine.{Machine}
use Rattle.machine.specs.Cells.{with_input_cursor, with_output_cursor}
use Rattle.pages.specs.declared.Effect.{Effect}
use Rattle.pages.specs.Passes.{stored, copied, sent}

-- "(dma) -> dma + 1", where document 01 allows a data move
unfoldable pub DMOV : ℕ → Machine → Effect
DMOV w m = copied m w

-- The next word of the input slice is stored. Where there is none, 11 has refused the pass: document 01's "stores 0 and moves no cursor" no longer holds
-- (document 02, request 2).
unfoldable pub IN : ℕ → Machine → Effect
IN next m = stored (with_input_cursor m (wrapped_sum m.input_cursor 1)) next

-- the data word is sent
unfoldable pub OUT : ℕ → Machine → Effect
OUT w m = sent (with_output_cursor m (wrapped_sum m.output_cursor 1)) w
