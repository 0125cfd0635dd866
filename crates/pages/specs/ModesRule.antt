-- The rule of the family: each case by its page.
use Rattle.std.specs.Prelude.{ℕ}
use Rattle.machine.specs.declared.Machine.{Machine}
use Rattle.instructions.specs.declared.Modes.{Modes}
use Rattle.instructions.specs.declared.Modes.TheVariants.{Sovm, Rovm, Ssxm, Rsxm, Cnfd, Cnfp, Rpt, Rptk, Push, Pop}
use Rattle.pages.specs.declared.Effect.{Effect}
use Rattle.pages.specs.Passes.{kept}
use Rattle.pages.specs.ModesPages.{SOVM, ROVM, SSXM, RSXM, CNFD, CNFP, RPT, RPTK, PUSH, POP}

unfoldable pub modes_rule : Modes → Machine → ℕ → Effect
modes_rule Sovm m w = kept (SOVM m)
modes_rule Rovm m w = kept (ROVM m)
modes_rule Ssxm m w = kept (SSXM m)
modes_rule Rsxm m w = kept (RSXM m)
modes_rule Cnfd m w = kept (CNFD m)
modes_rule Cnfp m w = kept (CNFP m)
modes_rule (Rpt operand) m w = kept (RPT w m)
modes_rule (Rptk k) m w = kept (RPTK k m)
modes_rule Push m w = kept (PUSH m)
modes_rule Pop m w = kept (POP m)
