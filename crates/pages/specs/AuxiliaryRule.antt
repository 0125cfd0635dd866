-- The rule of the family: each case by its page.
use Rattle.std.specs.Prelude.{ℕ}
use Rattle.machine.specs.declared.Machine.{Machine}
use Rattle.instructions.specs.declared.Auxiliary.{Auxiliary}
use Rattle.instructions.specs.declared.Auxiliary.TheVariants.{Lar, Sar, Lark, Mar, Adrk, Sbrk, Ldp, Ldpk}
use Rattle.pages.specs.declared.Effect.{Effect}
use Rattle.pages.specs.Passes.{kept, stored}
use Rattle.pages.specs.AuxiliaryPages.{LAR, SAR, LARK, MAR, ADRK, SBRK, LDP, LDPK}

unfoldable pub auxiliary_rule : Auxiliary → Machine → Machine → ℕ → Effect
auxiliary_rule (Lar r operand) before m w = kept (LAR r w m)
auxiliary_rule (Sar r operand) before m w = stored m (SAR r before)
auxiliary_rule (Lark r k) before m w = kept (LARK r k m)
auxiliary_rule (Mar operand) before m w = kept (MAR m)
auxiliary_rule (Adrk k) before m w = kept (ADRK k m)
auxiliary_rule (Sbrk k) before m w = kept (SBRK k m)
auxiliary_rule (Ldp operand) before m w = kept (LDP w m)
auxiliary_rule (Ldpk k) before m w = kept (LDPK k m)
