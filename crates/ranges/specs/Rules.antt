-- Every rule keeps the machine in range, and leaves and asks for words of 16 bits: proofs, family by family.
use Rattle.std.specs.Prelude.{◌≡◌, refl, Bool, ℕ, ◌%◌, ◌^◌, ◌<◌, Option, Some, None}
use Rattle.std.proofs.Math.Bool.{true, false}
use Rattle.std.proofs.Common.{arith}
use Rattle.alu.specs.declared.Sum.{Sum}
use Rattle.alu.specs.declared.Shifted.{Shifted}
use Rattle.machine.specs.declared.Machine.{Machine}
use Rattle.instructions.specs.declared.Instruction.{Instruction}
use Rattle.instructions.specs.declared.Instruction.TheVariants as Family
use Rattle.instructions.specs.declared.Accumulator.{Accumulator}
use Rattle.pages.specs.AccumulatorRule.{accumulator_rule}
use Rattle.pages.specs.AccumulatorPages.{with_shifted, ADD, SUB, LAC, ADDH, ADDS, SUBH, SUBS, SUBC, ZALH, ZALS, AND, OR, XOR, SACL, SACH, LACK, ADDK, SUBK, CMPL, NEG, ABS, SFL, SFR}
use Rattle.instructions.specs.declared.Multiplier.{Multiplier}
use Rattle.pages.specs.MultiplierRule.{multiplier_rule}
use Rattle.pages.specs.MultiplierPages.{LT, LTA, LTP, LTD, LTS, MPY, MPYA, MPYS, MPYK, SQRA, SQRS, MAC, MACD, PAC, APAC, SPAC, SPL, SPH, SPM}
use Rattle.instructions.specs.declared.Auxiliary.{Auxiliary}
use Rattle.pages.specs.AuxiliaryRule.{auxiliary_rule}
use Rattle.pages.specs.AuxiliaryPages.{LAR, SAR, LARK, MAR, ADRK, SBRK, LDP, LDPK}
use Rattle.instructions.specs.declared.Branches.{Branches}
use Rattle.pages.specs.BranchesRule.{branches_rule}
use Rattle.pages.specs.BranchesPages.{branched, B, BANZ, BZ, BNZ, BGZ, BGEZ, BLZ, BLEZ, BV, BNV, CALL, RET}
use Rattle.instructions.specs.declared.Transfers.{Transfers}
use Rattle.pages.specs.TransfersRule.{transfers_rule}
use Rattle.pages.specs.TransfersPages.{DMOV, IN, OUT}
use Rattle.instructions.specs.declared.Modes.{Modes}
use Rattle.pages.specs.ModesRule.{modes_rule}
use Rattle.pages.specs.ModesPages.{SOVM, ROVM, SSXM, RSXM, CNFD, CNFP, RPT, RPTK, PUSH, POP}
use Rattle.pages.specs.declared.Store.{Store}
use Rattle.pages.specs.declared.Store.TheVariants as Left
use Rattle.pages.specs.declared.Effect.{Effect}
use Rattle.pages.specs.Passes.{with_sum, kept, stored, copied, jumped}
use Rattle.pages.specs.Traits.{traits_of, transfers_traits}
use Rattle.steps.specs.Refusals.{takes, sends}
use Rattle.pages.specs.declared.Words.{Words}
use Rattle.pages.specs.Rules.{rule_of}
use Rattle.encodings.specs.Encode.{accumulator_fields, multiplier_fields, auxiliary_fields, mode_fields, fields_of}
use Rattle.encodings.specs.Within.{FieldsWithin}
use Rattle.ranges.specs.Cells.{Fits, set_cell, set_register, set_pushed, set_popped, top_fits, cell_fits, register_fits}
use Rattle.ranges.specs.Widths.{SumFits, ShiftedFits, added_fits, subtracted_fits, added_high_fits, subtracted_high_fits, negated_fits, absolute_fits, conditionally_fits, high_half_lt, operand_lt, unsigned_lt, stored_low_lt, stored_high_lt, left_fits, right_fits, anded_lt, ored_lt, xored_lt, complemented_lt, product_lt, shifted_lt, product_high_lt, product_low_lt, sum_lt, sum_le, difference_lt}

-- a word that is to be stored, and a jump, are of 16 bits
abbrev pub StoreFits : Store → Type 0
StoreFits Left.Nothing = Unit {0}
StoreFits (Left.Word word) = word < 2 ^ 16
StoreFits (Left.Move word) = word < 2 ^ 16
StoreFits (Left.Sent word) = word < 2 ^ 16

abbrev pub JumpFits : Option ℕ → Type 0
JumpFits None = Unit {0}
JumpFits (Some to) = to < 2 ^ 16

pub record EffectFits (i o : ℕ) (e : Effect) : Type 0 where
  pub m : Fits i o e.m
  pub store : StoreFits e.store
  pub jump : JumpFits e.jump

-- the words that a pass has read
pub record WordsRead (words : Words) : Type 0 where
  pub operand : words.operand < 2 ^ 16
  pub second : words.second < 2 ^ 16
  pub table : words.table < 2 ^ 16
  pub next : words.next < 2 ^ 16

nine : (w : ℕ) → w % 2 ^ 9 < 512
nine w = omega arith

eight : (w : ℕ) → w % 2 ^ 8 < 256
eight w = omega arith

sixteen : (w : ℕ) → w % 2 ^ 16 < 2 ^ 16
sixteen w = omega arith

module _ {i o : ℕ} where
  only : {m : Machine} → Fits i o m → EffectFits i o (kept m)
  only f = record { m = f; store = tt; jump = tt }

  storing : {m : Machine} {w : ℕ} → Fits i o m → w < 2 ^ 16 → EffectFits i o (stored m w)
  storing f h = record { m = f; store = h; jump = tt }

  copying : {m : Machine} {w : ℕ} → Fits i o m → w < 2 ^ 16 → EffectFits i o (copied m w)
  copying f h = record { m = f; store = h; jump = tt }

  jumping : {m : Machine} {to : ℕ} → Fits i o m → to < 2 ^ 16 → EffectFits i o (jumped m to)
  jumping f h = record { m = f; store = tt; jump = h }

  set_sum : {m : Machine} {s : Sum} → Fits i o m → SumFits s → Fits i o (with_sum m s)
  set_sum f s = set_cell "C" (set_cell "OV" (set_cell "ACC" f s.acc) s.ov) s.c

  set_shifted : {m : Machine} {s : Shifted} → Fits i o m → ShiftedFits s → Fits i o (with_shifted m s)
  set_shifted f s = set_cell "C" (set_cell "ACC" f s.acc) s.c

  accumulator_keeps : (x : Accumulator) {m : Machine} {w : ℕ} → Fits i o m → w < 2 ^ 16 → FieldsWithin (accumulator_fields x) → EffectFits i o (accumulator_rule x m w)
  unfolding accumulator_fields accumulator_rule ADD SUB LAC ADDH ADDS SUBH SUBS SUBC ZALH ZALS AND OR XOR SACL SACH LACK ADDK SUBK CMPL NEG ABS SFL SFR
  accumulator_keeps (Accumulator.Add s a) {m} {w} f h k = only (set_sum f (added_fits _ _ (cell_fits f "ACC") (cell_fits f "OV") (operand_lt w s m.sxm)))
  accumulator_keeps (Accumulator.Sub s a) {m} {w} f h k = only (set_sum f (subtracted_fits _ _ (cell_fits f "ACC") (cell_fits f "OV")))
  accumulator_keeps (Accumulator.Lac s a) {m} {w} f h k = only (set_cell "ACC" f (operand_lt w s m.sxm))
  accumulator_keeps (Accumulator.Addh a) {m} {w} f h k = only (set_sum f (added_high_fits _ _ (cell_fits f "ACC") (cell_fits f "OV") (cell_fits f "C")))
  accumulator_keeps (Accumulator.Adds a) {m} {w} f h k = only (set_sum f (added_fits _ _ (cell_fits f "ACC") (cell_fits f "OV") (unsigned_lt w)))
  accumulator_keeps (Accumulator.Subh a) {m} {w} f h k = only (set_sum f (subtracted_high_fits _ _ (cell_fits f "ACC") (cell_fits f "OV") (cell_fits f "C")))
  accumulator_keeps (Accumulator.Subs a) {m} {w} f h k = only (set_sum f (subtracted_fits _ _ (cell_fits f "ACC") (cell_fits f "OV")))
  accumulator_keeps (Accumulator.Subc a) {m} {w} f h k = only (set_sum f (conditionally_fits _ m.ovm (cell_fits f "ACC") (cell_fits f "OV")))
  accumulator_keeps (Accumulator.Zalh a) {m} {w} f h k = only (set_cell "ACC" f (high_half_lt w h))
  accumulator_keeps (Accumulator.Zals a) {m} {w} f h k = only (set_cell "ACC" f (unsigned_lt w))
  accumulator_keeps (Accumulator.And a) {m} {w} f h k = only (set_cell "ACC" f (anded_lt m.acc w (cell_fits f "ACC")))
  accumulator_keeps (Accumulator.Or a) {m} {w} f h k = only (set_cell "ACC" f (ored_lt m.acc w (cell_fits f "ACC")))
  accumulator_keeps (Accumulator.Xor a) {m} {w} f h k = only (set_cell "ACC" f (xored_lt m.acc w (cell_fits f "ACC")))
  accumulator_keeps (Accumulator.Sacl s a) {m} {w} f h k = storing f (stored_low_lt m.acc s)
  accumulator_keeps (Accumulator.Sach s a) {m} {w} f h k = storing f (stored_high_lt m.acc s)
  accumulator_keeps (Accumulator.Lack n) {m} {w} f h k = let b : n < 2 ^ 8 = k.0 in only (set_cell "ACC" f (omega (arith, b)))
  accumulator_keeps (Accumulator.Addk n) {m} {w} f h k = let b : n < 2 ^ 8 = k.0 in only (set_sum f (added_fits _ _ (cell_fits f "ACC") (cell_fits f "OV") (omega (arith, b))))
  accumulator_keeps (Accumulator.Subk n) {m} {w} f h k = only (set_sum f (subtracted_fits _ _ (cell_fits f "ACC") (cell_fits f "OV")))
  accumulator_keeps Accumulator.Cmpl {m} {w} f h k = only (set_cell "ACC" f (complemented_lt m.acc))
  accumulator_keeps Accumulator.Neg {m} {w} f h k = only (set_sum f (negated_fits 0 _ (cell_fits f "ACC") (cell_fits f "OV")))
  accumulator_keeps Accumulator.Abs {m} {w} f h k = only (set_sum f (absolute_fits 0 _ (cell_fits f "ACC") (cell_fits f "OV")))
  accumulator_keeps Accumulator.Sfl {m} {w} f h k = only (set_shifted f (left_fits m.acc (cell_fits f "ACC")))
  accumulator_keeps Accumulator.Sfr {m} {w} f h k = only (set_shifted f (right_fits m.acc m.sxm (cell_fits f "ACC")))

  PAC_fits : {m : Machine} → Fits i o m → Fits i o (PAC m)
  unfolding PAC
  PAC_fits {m} f = set_cell "ACC" f (shifted_lt m.p m.pm)

  APAC_fits : {m : Machine} → Fits i o m → Fits i o (APAC m)
  unfolding APAC
  APAC_fits {m} f = set_sum f (added_fits _ _ (cell_fits f "ACC") (cell_fits f "OV") (shifted_lt m.p m.pm))

  SPAC_fits : {m : Machine} → Fits i o m → Fits i o (SPAC m)
  unfolding SPAC
  SPAC_fits f = set_sum f (subtracted_fits _ _ (cell_fits f "ACC") (cell_fits f "OV"))

  MAC_fits : {m : Machine} {w : ℕ} → Fits i o m → w < 2 ^ 16 → (table at : ℕ) → Fits i o (MAC w table at m)
  unfolding MAC
  MAC_fits {m} {w} f h table at = set_cell "PFC" (set_cell "P" (set_cell "T" (APAC_fits f) h) (product_lt w table)) (sum_lt at 1)

  multiplier_keeps : (x : Multiplier) {m : Machine} {w : ℕ} (table at : ℕ) → Fits i o m → w < 2 ^ 16 → FieldsWithin (multiplier_fields x) → EffectFits i o (multiplier_rule x m w table at)
  unfolding multiplier_fields multiplier_rule LT LTA LTP LTD LTS MPY MPYA MPYS MPYK SQRA SQRS MACD SPL SPH SPM
  multiplier_keeps (Multiplier.Lt a) {m} {w} table at f h k = only (set_cell "T" f h)
  multiplier_keeps (Multiplier.Lta a) {m} {w} table at f h k = only (set_cell "T" (APAC_fits f) h)
  multiplier_keeps (Multiplier.Ltp a) {m} {w} table at f h k = only (set_cell "T" (PAC_fits f) h)
  multiplier_keeps (Multiplier.Ltd a) {m} {w} table at f h k = copying (set_cell "T" (APAC_fits f) h) h
  multiplier_keeps (Multiplier.Lts a) {m} {w} table at f h k = only (set_cell "T" (SPAC_fits f) h)
  multiplier_keeps (Multiplier.Mpy a) {m} {w} table at f h k = only (set_cell "P" f (product_lt m.t w))
  multiplier_keeps (Multiplier.Mpya a) {m} {w} table at f h k = only (set_cell "P" (APAC_fits f) (product_lt m.t w))
  multiplier_keeps (Multiplier.Mpys a) {m} {w} table at f h k = only (set_cell "P" (SPAC_fits f) (product_lt m.t w))
  multiplier_keeps (Multiplier.Mpyk n) {m} {w} table at f h k = only (set_cell "P" f (product_lt m.t _))
  multiplier_keeps (Multiplier.Sqra a) {m} {w} table at f h k = only (set_cell "P" (set_cell "T" (APAC_fits f) h) (product_lt w w))
  multiplier_keeps (Multiplier.Sqrs a) {m} {w} table at f h k = only (set_cell "P" (set_cell "T" (SPAC_fits f) h) (product_lt w w))
  multiplier_keeps (Multiplier.Mac a) {m} {w} table at f h k = only (MAC_fits f h table at)
  multiplier_keeps (Multiplier.Macd a) {m} {w} table at f h k = copying (MAC_fits f h table at) h
  multiplier_keeps Multiplier.Pac {m} {w} table at f h k = only (PAC_fits f)
  multiplier_keeps Multiplier.Apac {m} {w} table at f h k = only (APAC_fits f)
  multiplier_keeps Multiplier.Spac {m} {w} table at f h k = only (SPAC_fits f)
  multiplier_keeps (Multiplier.Spl a) {m} {w} table at f h k = storing f (product_low_lt m.p m.pm)
  multiplier_keeps (Multiplier.Sph a) {m} {w} table at f h k = storing f (product_high_lt m.p m.pm)
  multiplier_keeps (Multiplier.Spm n) {m} {w} table at f h k = only (set_cell "PM" f k.0)

  auxiliary_keeps : (x : Auxiliary) {before m : Machine} {w : ℕ} → Fits i o before → Fits i o m → w < 2 ^ 16 → FieldsWithin (auxiliary_fields x) → EffectFits i o (auxiliary_rule x before m w)
  unfolding auxiliary_fields auxiliary_rule LAR SAR LARK MAR ADRK SBRK LDP LDPK
  auxiliary_keeps (Auxiliary.Lar r a) {before} {m} {w} b f h g = only (set_register f r w h)
  auxiliary_keeps (Auxiliary.Sar r a) {before} {m} {w} b f h g = storing f (register_fits b r)
  auxiliary_keeps (Auxiliary.Lark r k) {before} {m} {w} b f h g = let n : k < 2 ^ 8 = g.1.0 in only (set_register f r k (omega (arith, n)))
  auxiliary_keeps (Auxiliary.Mar a) {before} {m} {w} b f h g = only f
  auxiliary_keeps (Auxiliary.Adrk k) {before} {m} {w} b f h g = only (set_register f m.arp _ (sum_lt _ k))
  auxiliary_keeps (Auxiliary.Sbrk k) {before} {m} {w} b f h g = only (set_register f m.arp _ (difference_lt _ k))
  auxiliary_keeps (Auxiliary.Ldp a) {before} {m} {w} b f h g = only (set_cell "DP" f (nine w))
  auxiliary_keeps (Auxiliary.Ldpk k) {before} {m} {w} b f h g = only (set_cell "DP" f g.0)

  branching : (test : Bool) {m : Machine} {pma : ℕ} → Fits i o m → pma < 2 ^ 16 → EffectFits i o (branched test pma m)
  unfolding branched
  branching true f h = jumping f h
  branching false f h = only f

  branches_keeps : (x : Branches) (before : Machine) {m : Machine} {pma : ℕ} → Fits i o m → pma < 2 ^ 16 → EffectFits i o (branches_rule x before m pma)
  unfolding branches_rule B BANZ BZ BNZ BGZ BGEZ BLZ BLEZ BV BNV CALL RET
  branches_keeps (Branches.B x) before {m} f h = jumping f h
  branches_keeps (Branches.Banz x) before {m} f h = branching _ f h
  branches_keeps (Branches.Bz x) before {m} f h = branching _ f h
  branches_keeps (Branches.Bnz x) before {m} f h = branching _ f h
  branches_keeps (Branches.Bgz x) before {m} f h = branching _ f h
  branches_keeps (Branches.Bgez x) before {m} f h = branching _ f h
  branches_keeps (Branches.Blz x) before {m} f h = branching _ f h
  branches_keeps (Branches.Blez x) before {m} f h = branching _ f h
  branches_keeps (Branches.Bv x) before {m} f h = branching _ (set_cell "OV" f (omega arith)) h
  branches_keeps (Branches.Bnv x) before {m} f h = branching _ (set_cell "OV" f (omega arith)) h
  branches_keeps (Branches.Call x) before {m} f h = jumping (set_pushed f _ (sum_lt m.pc 2)) h
  branches_keeps Branches.Ret before {m} f h = jumping (set_popped f) (top_fits f)

  -- IN and OUT move a cursor that is not at its slice's end
  transfers_keeps : (x : Transfers) {m : Machine} {w next : ℕ} → Fits i o m → w < 2 ^ 16 → next < 2 ^ 16
      → (takes (transfers_traits x).port ≡ true → m.input_cursor < i) → (sends (transfers_traits x).port ≡ true → m.output_cursor < o)
      → EffectFits i o (transfers_rule x m w next)
  unfolding transfers_rule DMOV IN OUT transfers_traits takes sends
  transfers_keeps (Transfers.Dmov a) f h k more room = copying f h
  transfers_keeps (Transfers.In port a) {m} f h k more room = storing (set_cell "input cursor" f (omega (arith, sum_le m.input_cursor 1, more refl))) k
  transfers_keeps (Transfers.Out port a) {m} f h k more room =
      record { m = set_cell "output cursor" f (omega (arith, sum_le m.output_cursor 1, room refl)); store = h; jump = tt }

  modes_keeps : (x : Modes) {m : Machine} (w : ℕ) → Fits i o m → FieldsWithin (mode_fields x) → EffectFits i o (modes_rule x m w)
  unfolding mode_fields modes_rule SOVM ROVM SSXM RSXM CNFD CNFP RPT RPTK PUSH POP
  modes_keeps Modes.Sovm {m} w f g = only (set_cell "OVM" f (omega arith))
  modes_keeps Modes.Rovm {m} w f g = only (set_cell "OVM" f (omega arith))
  modes_keeps Modes.Ssxm {m} w f g = only (set_cell "SXM" f (omega arith))
  modes_keeps Modes.Rsxm {m} w f g = only (set_cell "SXM" f (omega arith))
  modes_keeps Modes.Cnfd {m} w f g = only (set_cell "CNF" f (omega arith))
  modes_keeps Modes.Cnfp {m} w f g = only (set_cell "CNF" f (omega arith))
  modes_keeps (Modes.Rpt a) {m} w f g = only (set_cell "RPTC" f (eight w))
  modes_keeps (Modes.Rptk k) {m} w f g = only (set_cell "RPTC" f g.0)
  modes_keeps Modes.Push {m} w f g = only (set_pushed f _ (sixteen m.acc))
  modes_keeps Modes.Pop {m} w f g = only (set_cell "ACC" (set_popped f) (omega (arith, top_fits f)))

  pub rule_keeps : (x : Instruction) {before m : Machine} (words : Words) → Fits i o before → Fits i o m → WordsRead words → FieldsWithin (fields_of x)
      → (takes (traits_of x).port ≡ true → m.input_cursor < i) → (sends (traits_of x).port ≡ true → m.output_cursor < o) → EffectFits i o (rule_of x before m words)
  unfolding fields_of rule_of traits_of
  rule_keeps (Family.Accumulator x) words b f r g more room = accumulator_keeps x f r.operand g
  rule_keeps (Family.Multiplier x) words b f r g more room = multiplier_keeps x words.table words.at f r.operand g
  rule_keeps (Family.Auxiliary x) words b f r g more room = auxiliary_keeps x b f r.operand g
  rule_keeps (Family.Branches x) {before} words b f r g more room = branches_keeps x before f r.second
  rule_keeps (Family.Transfers x) words b f r g more room = transfers_keeps x f r.operand r.next more room
  rule_keeps (Family.Modes x) words b f r g more room = modes_keeps x words.operand f g
