-- The rule of the family: each case by its page, with the next word of the input.
use Rattle.std.specs.Prelude.{ℕ}
use Rattle.machine.specs.declared.Machine.{Machine}
use Rattle.instructions.specs.declared.Transfers.{Transfers}
use Rattle.instructions.specs.declared.Transfers.TheVariants.{Dmov, In, Out}
use Rattle.pages.specs.declared.Effect.{Effect}
use Rattle.pages.specs.TransfersPages.{DMOV, IN, OUT}

unfoldable pub transfers_rule : Transfers → Machine → ℕ → ℕ → Effect
transfers_rule (Dmov operand) m w next = DMOV w m
transfers_rule (In port operand) m w next = IN next m
transfers_rule (Out port operand) m w next = OUT w m
