-- "11 is asked only of IN" (ruling D1): no other instruction takes a word from a port. Proofs.
use Rattle.std.specs.Prelude.{◌≡◌, refl, true, false, ℕ}
use Rattle.std.proofs.Common.{sym, ◌∙◌}
use Rattle.std.proofs.lemmas.Bool.{false≢true}
use Rattle.operands.specs.declared.Address.{Address}
use Rattle.instructions.specs.declared.Instruction.{Instruction}
use Rattle.instructions.specs.declared.Instruction.TheVariants as Family
use Rattle.instructions.specs.declared.Accumulator.{Accumulator}
use Rattle.instructions.specs.declared.Multiplier.{Multiplier}
use Rattle.instructions.specs.declared.Auxiliary.{Auxiliary}
use Rattle.instructions.specs.declared.Branches.{Branches}
use Rattle.instructions.specs.declared.Transfers.{Transfers}
use Rattle.instructions.specs.declared.Modes.{Modes}
use Rattle.pages.specs.Traits.{accumulator_traits, multiplier_traits, auxiliary_traits, branches_traits, transfers_traits, modes_traits, traits_of}
use Rattle.steps.specs.Refusals.{takes}

accumulator_takes : (i : Accumulator) → takes (accumulator_traits i).port ≡ false
unfolding accumulator_traits takes
accumulator_takes (Accumulator.Add n a) = refl
accumulator_takes (Accumulator.Sub n a) = refl
accumulator_takes (Accumulator.Lac n a) = refl
accumulator_takes (Accumulator.Addh a) = refl
accumulator_takes (Accumulator.Adds a) = refl
accumulator_takes (Accumulator.Subh a) = refl
accumulator_takes (Accumulator.Subs a) = refl
accumulator_takes (Accumulator.Subc a) = refl
accumulator_takes (Accumulator.Zalh a) = refl
accumulator_takes (Accumulator.Zals a) = refl
accumulator_takes (Accumulator.And a) = refl
accumulator_takes (Accumulator.Or a) = refl
accumulator_takes (Accumulator.Xor a) = refl
accumulator_takes (Accumulator.Sacl n a) = refl
accumulator_takes (Accumulator.Sach n a) = refl
accumulator_takes (Accumulator.Lack k) = refl
accumulator_takes (Accumulator.Addk k) = refl
accumulator_takes (Accumulator.Subk k) = refl
accumulator_takes Accumulator.Cmpl = refl
accumulator_takes Accumulator.Neg = refl
accumulator_takes Accumulator.Abs = refl
accumulator_takes Accumulator.Sfl = refl
accumulator_takes Accumulator.Sfr = refl

multiplier_takes : (i : Multiplier) → takes (multiplier_traits i).port ≡ false
unfolding multiplier_traits takes
multiplier_takes (Multiplier.Lt a) = refl
multiplier_takes (Multiplier.Lta a) = refl
multiplier_takes (Multiplier.Ltp a) = refl
multiplier_takes (Multiplier.Ltd a) = refl
multiplier_takes (Multiplier.Lts a) = refl
multiplier_takes (Multiplier.Mpy a) = refl
multiplier_takes (Multiplier.Mpya a) = refl
multiplier_takes (Multiplier.Mpys a) = refl
multiplier_takes (Multiplier.Mpyk k) = refl
multiplier_takes (Multiplier.Sqra a) = refl
multiplier_takes (Multiplier.Sqrs a) = refl
multiplier_takes (Multiplier.Mac a) = refl
multiplier_takes (Multiplier.Macd a) = refl
multiplier_takes Multiplier.Pac = refl
multiplier_takes Multiplier.Apac = refl
multiplier_takes Multiplier.Spac = refl
multiplier_takes (Multiplier.Spl a) = refl
multiplier_takes (Multiplier.Sph a) = refl
multiplier_takes (Multiplier.Spm k) = refl

auxiliary_takes : (i : Auxiliary) → takes (auxiliary_traits i).port ≡ false
unfolding auxiliary_traits takes
auxiliary_takes (Auxiliary.Lar n a) = refl
auxiliary_takes (Auxiliary.Sar n a) = refl
auxiliary_takes (Auxiliary.Lark r k) = refl
auxiliary_takes (Auxiliary.Mar a) = refl
auxiliary_takes (Auxiliary.Adrk k) = refl
auxiliary_takes (Auxiliary.Sbrk k) = refl
auxiliary_takes (Auxiliary.Ldp a) = refl
auxiliary_takes (Auxiliary.Ldpk k) = refl

branches_takes : (i : Branches) → takes (branches_traits i).port ≡ false
unfolding branches_traits takes
branches_takes (Branches.B i) = refl
branches_takes (Branches.Banz i) = refl
branches_takes (Branches.Bz i) = refl
branches_takes (Branches.Bnz i) = refl
branches_takes (Branches.Bgz i) = refl
branches_takes (Branches.Bgez i) = refl
branches_takes (Branches.Blz i) = refl
branches_takes (Branches.Blez i) = refl
branches_takes (Branches.Bv i) = refl
branches_takes (Branches.Bnv i) = refl
branches_takes (Branches.Call i) = refl
branches_takes Branches.Ret = refl

modes_takes : (i : Modes) → takes (modes_traits i).port ≡ false
unfolding modes_traits takes
modes_takes Modes.Sovm = refl
modes_takes Modes.Rovm = refl
modes_takes Modes.Ssxm = refl
modes_takes Modes.Rsxm = refl
modes_takes Modes.Cnfd = refl
modes_takes Modes.Cnfp = refl
modes_takes (Modes.Rpt a) = refl
modes_takes (Modes.Rptk k) = refl
modes_takes Modes.Push = refl
modes_takes Modes.Pop = refl

-- an instruction that is an IN
pub record IsIn (i : Instruction) : Type 0 where
  pub port : ℕ
  pub operand : Address
  pub same : i ≡ Family.Transfers (Transfers.In port operand)

transfers_take : (i : Transfers) → takes (transfers_traits i).port ≡ true → IsIn (Family.Transfers i)
unfolding transfers_traits takes
transfers_take (Transfers.Dmov operand) h = absurd (false≢true h)
transfers_take (Transfers.In port operand) h = record { port = port; operand = operand; same = refl }
transfers_take (Transfers.Out port operand) h = absurd (false≢true h)

pub takes_is_in : (i : Instruction) → takes (traits_of i).port ≡ true → IsIn i
unfolding traits_of
takes_is_in (Family.Accumulator i) h = absurd (false≢true (sym (accumulator_takes i) ∙ h))
takes_is_in (Family.Multiplier i) h = absurd (false≢true (sym (multiplier_takes i) ∙ h))
takes_is_in (Family.Auxiliary i) h = absurd (false≢true (sym (auxiliary_takes i) ∙ h))
takes_is_in (Family.Branches i) h = absurd (false≢true (sym (branches_takes i) ∙ h))
takes_is_in (Family.Transfers i) h = transfers_take i h
takes_is_in (Family.Modes i) h = absurd (false≢true (sym (modes_takes i) ∙ h))
