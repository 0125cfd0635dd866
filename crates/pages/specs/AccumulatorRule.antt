-- The rule of the family: each case by its page.
use Rattle.std.specs.Prelude.{ℕ}
use Rattle.machine.specs.declared.Machine.{Machine}
use Rattle.instructions.specs.declared.Accumulator.{Accumulator}
use Rattle.instructions.specs.declared.Accumulator.TheVariants.{Add, Sub, Lac, Addh, Adds, Subh, Subs, Subc, Zalh, Zals, And, Or, Xor, Sacl, Sach, Lack, Addk, Subk, Cmpl, Neg, Abs, Sfl, Sfr}
use Rattle.pages.specs.declared.Effect.{Effect}
use Rattle.pages.specs.Passes.{kept, stored}
use Rattle.pages.specs.AccumulatorPages.{ADD, SUB, LAC, ADDH, ADDS, SUBH, SUBS, SUBC, ZALH, ZALS, AND, OR, XOR, SACL, SACH, LACK, ADDK, SUBK, CMPL, NEG, ABS, SFL, SFR}

unfoldable pub accumulator_rule : Accumulator → Machine → ℕ → Effect
accumulator_rule (Add shift operand) m w = kept (ADD shift w m)
accumulator_rule (Sub shift operand) m w = kept (SUB shift w m)
accumulator_rule (Lac shift operand) m w = kept (LAC shift w m)
accumulator_rule (Addh operand) m w = kept (ADDH w m)
accumulator_rule (Adds operand) m w = kept (ADDS w m)
accumulator_rule (Subh operand) m w = kept (SUBH w m)
accumulator_rule (Subs operand) m w = kept (SUBS w m)
accumulator_rule (Subc operand) m w = kept (SUBC w m)
accumulator_rule (Zalh operand) m w = kept (ZALH w m)
accumulator_rule (Zals operand) m w = kept (ZALS w m)
accumulator_rule (And operand) m w = kept (AND w m)
accumulator_rule (Or operand) m w = kept (OR w m)
accumulator_rule (Xor operand) m w = kept (XOR w m)
accumulator_rule (Sacl shift operand) m w = stored m (SACL shift m)
accumulator_rule (Sach shift operand) m w = stored m (SACH shift m)
accumulator_rule (Lack k) m w = kept (LACK k m)
accumulator_rule (Addk k) m w = kept (ADDK k m)
accumulator_rule (Subk k) m w = kept (SUBK k m)
accumulator_rule Cmpl m w = kept (CMPL m)
accumulator_rule Neg m w = kept (NEG m)
accumulator_rule Abs m w = kept (ABS m)
accumulator_rule Sfl m w = kept (SFL m)
accumulator_rule Sfr m w = kept (SFR m)
