-- What every pass of a repeatable instruction does: proofs.
use Rattle.std.specs.Prelude.{◌≡◌, Bool, false, cond, ◌&&◌, List, ℕ, suc, ◌-◌, ◌≤◌, ltb, length, None, Option, Some}
use Rattle.std.proofs.Math.Path.{refl, sym, ap}
use Rattle.std.proofs.Common.{◌∙◌, arith, lt-ltb}
use Rattle.std.proofs.Math.Bool.{true, not}
use Rattle.std.proofs.lemmas.Bool.{false≢true, not-false}
use Rattle.alu.specs.Registers.{wrapped_sum}
use Rattle.machine.specs.declared.Machine.{Machine}
use Rattle.machine.specs.Cells.{with_pc, with_mid, with_rptc}
use Rattle.machine.specs.Range.{in_range}
use Rattle.machine.specs.RangeLaws.{ranged, in_range_lem, most, put_within}
use Rattle.answers.specs.Answers.{Done}
use Rattle.instructions.specs.declared.Instruction.{Instruction}
use Rattle.instructions.specs.declared.Instruction.TheVariants as Family
use Rattle.instructions.specs.declared.Accumulator.{Accumulator}
use Rattle.pages.specs.AccumulatorRule.{accumulator_rule}
use Rattle.instructions.specs.declared.Multiplier.{Multiplier}
use Rattle.pages.specs.MultiplierRule.{multiplier_rule}
use Rattle.instructions.specs.declared.Auxiliary.{Auxiliary}
use Rattle.pages.specs.AuxiliaryRule.{auxiliary_rule}
use Rattle.instructions.specs.declared.Modes.{Modes}
use Rattle.pages.specs.ModesRule.{modes_rule}
use Rattle.instructions.specs.declared.Branches.{Branches}
use Rattle.pages.specs.BranchesRule.{branches_rule}
use Rattle.instructions.specs.declared.Transfers.{Transfers}
use Rattle.pages.specs.TransfersRule.{transfers_rule}
use Rattle.pages.specs.AccumulatorPages.{ADD, SUB, LAC, ADDH, ADDS, SUBH, SUBS, SUBC, ZALH, ZALS, AND, OR, XOR, SACL, SACH, LACK, ADDK, SUBK, CMPL, NEG, ABS, SFL, SFR}
use Rattle.pages.specs.MultiplierPages.{table_address, LT, LTA, LTP, LTD, LTS, MPY, MPYA, MPYS, MPYK, SQRA, SQRS, MAC, MACD, PAC, APAC, SPAC, SPL, SPH, SPM}
use Rattle.pages.specs.AuxiliaryPages.{LAR, SAR, LARK, MAR, ADRK, SBRK, LDP, LDPK}
use Rattle.pages.specs.ModesPages.{SOVM, ROVM, SSXM, RSXM, CNFD, CNFP, RPT, RPTK, PUSH, POP}
use Rattle.pages.specs.TransfersPages.{DMOV, IN, OUT}
use Rattle.instructions.specs.declared.Decoded.TheVariants.{Built}
use Rattle.operands.specs.declared.Address.{Address}
use Rattle.operands.specs.declared.Address.TheVariants as Mode
use Rattle.pages.specs.declared.Effect.{Effect}
use Rattle.pages.specs.Passes.{destination, followed}
use Rattle.pages.specs.declared.Traits.{Traits}
use Rattle.pages.specs.Traits.{accumulator_traits, multiplier_traits, auxiliary_traits, branches_traits, transfers_traits, modes_traits, traits_of}
use Rattle.pages.specs.Addressing.{pointed, modified, addressed, address_of}
use Rattle.pages.specs.declared.Words.{Words}
use Rattle.pages.specs.Rules.{rule_of}
use Rattle.board.specs.Slices.{slices_fit}
use Rattle.board.specs.Given.{Given}
use Rattle.steps.specs.OperandFound.{found_for}
use Rattle.steps.specs.Refusals.{data_absent, input_dry, table_absent, output_full, pass_rows, access_rows, rest_rows}
use Rattle.steps.specs.Stores.{data_after, output_after}
use Rattle.steps.specs.Pass.{words_read, effect_of, passed_machine, passed_write, performed}
use Rattle.steps.specs.World.{World}
use Rattle.steps.specs.Table.{decoded_at, second_address, second_word, not_repeatable, second_absent, table_for, check_rows, fetch_rows, encoding_rows, instruction_rows, repeat_rows}
use Rattle.steps.specs.Step.{after_store, step_of, rows_of}
use Rattle.steps.specs.Rows.{NoneHolds}
use Rattle.steps.proofs.RowLaws.{row_not}
use Rattle.steps.proofs.TableLaws.{step_world}
use Rattle.laws.specs.Laws.{recounted, work_of, effect_at, write_at, PassWorks, EveryPassWorks}
use Rattle.laws.proofs.Steps.{◌and◌, row_given, pass_none}

-- the machine with another RPTC and another PC
abbrev counted_at : Machine → ℕ → ℕ → Machine
counted_at m n pc = with_pc (with_rptc m n) pc

-- what a rule gives that neither reads nor changes RPTC and PC, and sends PC nowhere
abbrev uncounted : Effect → ℕ → ℕ → Effect
uncounted e n pc = record { m = counted_at e.m n pc; store = e.store; jump = None }

accumulator_counted : (i : Accumulator) (m : Machine) (w : ℕ) (n pc : ℕ) → (accumulator_traits i).repeatable ≡ true
    → accumulator_rule i (counted_at m n pc) w ≡ uncounted (accumulator_rule i m w) n pc
unfolding accumulator_traits accumulator_rule ADD SUB LAC ADDH ADDS SUBH SUBS SUBC ZALH ZALS AND OR XOR SACL SACH LACK ADDK SUBK CMPL NEG ABS SFL SFR
accumulator_counted (Accumulator.Add k a) m w n pc h = refl
accumulator_counted (Accumulator.Sub k a) m w n pc h = refl
accumulator_counted (Accumulator.Lac k a) m w n pc h = refl
accumulator_counted (Accumulator.Addh a) m w n pc h = refl
accumulator_counted (Accumulator.Adds a) m w n pc h = refl
accumulator_counted (Accumulator.Subh a) m w n pc h = refl
accumulator_counted (Accumulator.Subs a) m w n pc h = refl
accumulator_counted (Accumulator.Subc a) m w n pc h = refl
accumulator_counted (Accumulator.Zalh a) m w n pc h = refl
accumulator_counted (Accumulator.Zals a) m w n pc h = refl
accumulator_counted (Accumulator.And a) m w n pc h = refl
accumulator_counted (Accumulator.Or a) m w n pc h = refl
accumulator_counted (Accumulator.Xor a) m w n pc h = refl
accumulator_counted (Accumulator.Sacl k a) m w n pc h = refl
accumulator_counted (Accumulator.Sach k a) m w n pc h = refl
accumulator_counted (Accumulator.Lack k) m w n pc h = absurd (false≢true h)
accumulator_counted (Accumulator.Addk k) m w n pc h = absurd (false≢true h)
accumulator_counted (Accumulator.Subk k) m w n pc h = absurd (false≢true h)
accumulator_counted Accumulator.Cmpl m w n pc h = refl
accumulator_counted Accumulator.Neg m w n pc h = refl
accumulator_counted Accumulator.Abs m w n pc h = refl
accumulator_counted Accumulator.Sfl m w n pc h = refl
accumulator_counted Accumulator.Sfr m w n pc h = refl

multiplier_counted : (i : Multiplier) (m : Machine) (w table at : ℕ) (n pc : ℕ) → (multiplier_traits i).repeatable ≡ true
    → multiplier_rule i (counted_at m n pc) w table at ≡ uncounted (multiplier_rule i m w table at) n pc
unfolding multiplier_traits multiplier_rule LT LTA LTP LTD LTS MPY MPYA MPYS MPYK SQRA SQRS MAC MACD PAC APAC SPAC SPL SPH SPM
multiplier_counted (Multiplier.Lt a) m w table at n pc h = refl
multiplier_counted (Multiplier.Lta a) m w table at n pc h = refl
multiplier_counted (Multiplier.Ltp a) m w table at n pc h = refl
multiplier_counted (Multiplier.Ltd a) m w table at n pc h = refl
multiplier_counted (Multiplier.Lts a) m w table at n pc h = refl
multiplier_counted (Multiplier.Mpy a) m w table at n pc h = refl
multiplier_counted (Multiplier.Mpya a) m w table at n pc h = refl
multiplier_counted (Multiplier.Mpys a) m w table at n pc h = refl
multiplier_counted (Multiplier.Mpyk k) m w table at n pc h = absurd (false≢true h)
multiplier_counted (Multiplier.Sqra a) m w table at n pc h = refl
multiplier_counted (Multiplier.Sqrs a) m w table at n pc h = refl
multiplier_counted (Multiplier.Mac a) m w table at n pc h = refl
multiplier_counted (Multiplier.Macd a) m w table at n pc h = refl
multiplier_counted Multiplier.Pac m w table at n pc h = refl
multiplier_counted Multiplier.Apac m w table at n pc h = refl
multiplier_counted Multiplier.Spac m w table at n pc h = refl
multiplier_counted (Multiplier.Spl a) m w table at n pc h = refl
multiplier_counted (Multiplier.Sph a) m w table at n pc h = refl
multiplier_counted (Multiplier.Spm k) m w table at n pc h = absurd (false≢true h)

auxiliary_counted : (i : Auxiliary) (before m : Machine) (w : ℕ) (n pc : ℕ) → (auxiliary_traits i).repeatable ≡ true
    → auxiliary_rule i (counted_at before n pc) (counted_at m n pc) w ≡ uncounted (auxiliary_rule i before m w) n pc
unfolding auxiliary_traits auxiliary_rule LAR SAR LARK MAR ADRK SBRK LDP LDPK
auxiliary_counted (Auxiliary.Lar k a) before m w n pc h = refl
auxiliary_counted (Auxiliary.Sar k a) before m w n pc h = refl
auxiliary_counted (Auxiliary.Lark r k) before m w n pc h = absurd (false≢true h)
auxiliary_counted (Auxiliary.Mar a) before m w n pc h = refl
auxiliary_counted (Auxiliary.Adrk k) before m w n pc h = absurd (false≢true h)
auxiliary_counted (Auxiliary.Sbrk k) before m w n pc h = absurd (false≢true h)
auxiliary_counted (Auxiliary.Ldp a) before m w n pc h = refl
auxiliary_counted (Auxiliary.Ldpk k) before m w n pc h = absurd (false≢true h)

modes_counted : (i : Modes) (m : Machine) (w : ℕ) (n pc : ℕ) → (modes_traits i).repeatable ≡ true
    → modes_rule i (counted_at m n pc) w ≡ uncounted (modes_rule i m w) n pc
unfolding modes_traits modes_rule SOVM ROVM SSXM RSXM CNFD CNFP RPT RPTK PUSH POP
modes_counted Modes.Sovm m w n pc h = refl
modes_counted Modes.Rovm m w n pc h = refl
modes_counted Modes.Ssxm m w n pc h = refl
modes_counted Modes.Rsxm m w n pc h = refl
modes_counted Modes.Cnfd m w n pc h = refl
modes_counted Modes.Cnfp m w n pc h = refl
modes_counted (Modes.Rpt a) m w n pc h = absurd (false≢true h)
modes_counted (Modes.Rptk k) m w n pc h = absurd (false≢true h)
modes_counted Modes.Push m w n pc h = refl
modes_counted Modes.Pop m w n pc h = refl

branches_counted : (i : Branches) (before m : Machine) (pma : ℕ) (n pc : ℕ) → (branches_traits i).repeatable ≡ true
    → branches_rule i (counted_at before n pc) (counted_at m n pc) pma ≡ uncounted (branches_rule i before m pma) n pc
unfolding branches_traits branches_rule
branches_counted (Branches.B i) before m pma n pc h = absurd (false≢true h)
branches_counted (Branches.Banz i) before m pma n pc h = absurd (false≢true h)
branches_counted (Branches.Bz i) before m pma n pc h = absurd (false≢true h)
branches_counted (Branches.Bnz i) before m pma n pc h = absurd (false≢true h)
branches_counted (Branches.Bgz i) before m pma n pc h = absurd (false≢true h)
branches_counted (Branches.Bgez i) before m pma n pc h = absurd (false≢true h)
branches_counted (Branches.Blz i) before m pma n pc h = absurd (false≢true h)
branches_counted (Branches.Blez i) before m pma n pc h = absurd (false≢true h)
branches_counted (Branches.Bv i) before m pma n pc h = absurd (false≢true h)
branches_counted (Branches.Bnv i) before m pma n pc h = absurd (false≢true h)
branches_counted (Branches.Call i) before m pma n pc h = absurd (false≢true h)
branches_counted Branches.Ret before m pma n pc h = absurd (false≢true h)

transfers_counted : (i : Transfers) (m : Machine) (w next : ℕ) (n pc : ℕ) → (transfers_traits i).repeatable ≡ true
    → transfers_rule i (counted_at m n pc) w next ≡ uncounted (transfers_rule i m w next) n pc
unfolding transfers_traits transfers_rule DMOV IN OUT
transfers_counted (Transfers.Dmov a) m w next n pc h = refl
transfers_counted (Transfers.In port a) m w next n pc h = refl
transfers_counted (Transfers.Out port a) m w next n pc h = refl

rule_counted : (i : Instruction) (before m : Machine) (words : Words) (n pc : ℕ) → (traits_of i).repeatable ≡ true
    → rule_of i (counted_at before n pc) (counted_at m n pc) words ≡ uncounted (rule_of i before m words) n pc
unfolding traits_of rule_of
rule_counted (Family.Accumulator i) before m words n pc h = accumulator_counted i m words.operand n pc h
rule_counted (Family.Multiplier i) before m words n pc h = multiplier_counted i m words.operand words.table words.at n pc h
rule_counted (Family.Auxiliary i) before m words n pc h = auxiliary_counted i before m words.operand n pc h
rule_counted (Family.Branches i) before m words n pc h = branches_counted i before m words.second n pc h
rule_counted (Family.Transfers i) before m words n pc h = transfers_counted i m words.operand words.next n pc h
rule_counted (Family.Modes i) before m words n pc h = modes_counted i m words.operand n pc h

-- ---- operands and words read

pointed_counted : (next : Option ℕ) (m : Machine) (n pc : ℕ) → pointed next (counted_at m n pc) ≡ counted_at (pointed next m) n pc
unfolding pointed
pointed_counted None m n pc = refl
pointed_counted (Some arp) m n pc = refl

addressed_counted : (o : Option Address) (m : Machine) (n pc : ℕ) → addressed o (counted_at m n pc) ≡ counted_at (addressed o m) n pc
unfolding addressed modified
addressed_counted None m n pc = refl
addressed_counted (Some (Mode.Direct offset)) m n pc = refl
addressed_counted (Some (Mode.Indirect operand)) m n pc = pointed_counted operand.next _ n pc

address_counted : (o : Option Address) (m : Machine) (n pc : ℕ) → address_of o (counted_at m n pc) ≡ address_of o m
unfolding address_of
address_counted None m n pc = refl
address_counted (Some (Mode.Direct offset)) m n pc = refl
address_counted (Some (Mode.Indirect operand)) m n pc = refl

found_counted : (t : Traits) («data» : List ℕ) (m : Machine) (n pc : ℕ) → found_for t «data» (counted_at m n pc) ≡ found_for t «data» m
unfolding found_for
found_counted t «data» m n pc = rw (address_counted t.operand m n pc)

words_counted : (t : Traits) (second : ℕ) (g : Given) («data» : List ℕ) (m : Machine) (n pc : ℕ) → words_read t second g «data» (counted_at m n pc) ≡ words_read t second g «data» m
unfolding words_read table_address
words_counted t second g «data» m n pc = rw (found_counted t «data» m n pc)

-- ---- the pass

module _ (i : Instruction) (h : (traits_of i).repeatable ≡ true) (second : ℕ) (g : Given) («data» : List ℕ) (m : Machine) where
  effect_counted : (n pc : ℕ) → effect_of (traits_of i) i second g «data» (counted_at m n pc) ≡ uncounted (effect_of (traits_of i) i second g «data» m) n pc
  unfolding effect_of
  effect_counted n pc =
      rw (addressed_counted (traits_of i).operand m n pc, words_counted (traits_of i) second g «data» m n pc)
      (rule_counted i m (addressed (traits_of i).operand m) (words_read (traits_of i) second g «data» m) n pc h)

  -- the machine after the pass, with RPTC n before it
  passed_with : (n : ℕ) → passed_machine (traits_of i) i second g «data» (counted_at m n m.pc)
      ≡ followed (counted_at (effect_of (traits_of i) i second g «data» m).m n m.pc) None (traits_of i).words true
  unfolding passed_machine
  passed_with n = rw (effect_counted n m.pc, h)

  written_with : (n : ℕ) → passed_write (traits_of i) i second g «data» (counted_at m n m.pc) ≡ passed_write (traits_of i) i second g «data» m
  unfolding passed_write
  written_with n = rw (effect_counted n m.pc, found_counted (traits_of i) «data» m n m.pc, address_counted (traits_of i).operand m n m.pc)

follows_on : (m : Machine) (n pc words : ℕ) → followed (counted_at m (suc n) pc) None words true ≡ with_mid (with_rptc (with_pc m pc) n) 1
unfolding followed
follows_on m n pc words =
    let a : ltb 0 (suc n) ≡ true = lt-ltb 0 (suc n) (omega arith) in
    let b : suc n - 1 ≡ n = omega arith in
    rw (a, b)

follows_last : (m : Machine) (pc words : ℕ) → followed (counted_at m 0 pc) None words true ≡ with_pc (with_mid (with_rptc m 0) 0) (wrapped_sum pc words)
unfolding followed destination
follows_last m pc words = refl

follows_work : (m : Machine) (n pc words : ℕ) → with_pc (with_mid (with_rptc (followed (counted_at m n pc) None words true) 0) 0) 0 ≡ with_pc (with_mid (with_rptc m 0) 0) 0
unfolding followed
follows_work m n pc words = by (ltb 0 n) _ _
  where
    by : (t : Bool) (k at : ℕ)
        → with_pc (with_mid (with_rptc (cond t (with_mid (with_rptc (counted_at m n pc) k) 1) (with_pc (with_mid (counted_at m n pc) 0) at)) 0) 0) 0
        ≡ with_pc (with_mid (with_rptc m 0) 0) 0
    by true k at = refl
    by false k at = refl

-- ---- the step

never : (t : Bool) → t && false ≡ false
never true = refl
never false = refl

module _ (g : Given) (w : World) (i : Instruction) (d : decoded_at g w.«data» w.m ≡ Built i) (h : (traits_of i).repeatable ≡ true)
    (e : (step_of g w).answer ≡ Done) (n : ℕ) (l : n ≤ 255) where
  decoded_recounted : decoded_at g w.«data» (with_rptc w.m n) ≡ Built i
  unfolding decoded_at
  decoded_recounted = d

  -- nothing that a pass asks looks at RPTC
  pass_recounted : (second : ℕ)
      → pass_rows (traits_of i) (found_for (traits_of i) w.«data» (with_rptc w.m n)).region second (length g.input) (length w.output) (with_rptc w.m n)
      ≡ pass_rows (traits_of i) (found_for (traits_of i) w.«data» w.m).region second (length g.input) (length w.output) w.m
  unfolding pass_rows access_rows rest_rows data_absent table_absent table_address input_dry output_full
  pass_recounted second = rw (found_counted (traits_of i) w.«data» w.m n w.m.pc)

  none_recounted : NoneHolds (table_for (Built i) g w.«data» (length w.output) w.m) → NoneHolds (table_for (Built i) g w.«data» (length w.output) (with_rptc w.m n))
  unfolding table_for check_rows fetch_rows encoding_rows instruction_rows repeat_rows slices_fit not_repeatable second_absent second_address second_word
  none_recounted o =
      let rows = table_for (Built i) g w.«data» (length w.output) w.m in
      let r = ranged w.m (not-false _ (row_not rows "1" o)) in
      let fits : in_range (with_rptc w.m n) ≡ true = in_range_lem (with_rptc w.m n) (put_within r "RPTC" l) in
      ap not fits
      and row_not rows "2" o
      and row_not rows "5 for the first word" o
      and refl
      and refl
      and rw h (never (ltb 0 n))
      and row_not rows "5 for the second word" o
      and rw (pass_recounted (second_word i g w.«data» w.m)) (pass_none i g w.«data» (length w.output) w.m o)

  done_recounted : (step_of g (recounted w n)).answer ≡ Done
  done_recounted =
      let o : NoneHolds (table_for (Built i) g w.«data» (length w.output) w.m) = rw d at ((row_given g w).done_only e) in
      (row_given g (recounted w n)).done_by (rw decoded_recounted (none_recounted o))

  work_recounted : work_of (step_of g (recounted w n)).world
      ≡ record {
        m = with_pc (with_mid (with_rptc (effect_at g w i).m 0) 0) 0;
        «data» = data_after (write_at g w i) w.«data»;
        output = output_after (write_at g w i) w.output;
      }
  unfolding after_store performed second_word second_address
  work_recounted =
      rw (
        step_world g (recounted w n) i decoded_recounted done_recounted,
        passed_with i h (second_word i g w.«data» w.m) g w.«data» w.m n,
        written_with i h (second_word i g w.«data» w.m) g w.«data» w.m n,
        follows_work (effect_at g w i).m n w.m.pc (traits_of i).words,
      )

module _ (g : Given) (w : World) (i : Instruction) (d : decoded_at g w.«data» w.m ≡ Built i) (h : (traits_of i).repeatable ≡ true)
    (e : (step_of g w).answer ≡ Done) where
  -- the machine after the step, by the RPTC before it
  machine_after : (n : ℕ) → w.m.rptc ≡ n
      → (step_of g w).world.m ≡ followed (counted_at (effect_at g w i).m n w.m.pc) None (traits_of i).words true
  unfolding after_store performed
  machine_after n f =
      rw (← f, step_world g w i d e)
      (passed_with i h (second_word i g w.«data» w.m) g w.«data» w.m w.m.rptc)

  in_bounds : w.m.rptc ≤ 255
  unfolding table_for check_rows
  in_bounds = most (ranged w.m (not-false _ (row_not (rows_of g w) "1" ((row_given g w).done_only e)))) "RPTC"

  pass_works : PassWorks g w i
  unfolding after_store performed
  pass_works = record {
    goes_on = λ n f. machine_after (suc n) f ∙ follows_on (effect_at g w i).m n w.m.pc (traits_of i).words;
    ends = λ f. machine_after 0 f ∙ follows_last (effect_at g w i).m w.m.pc (traits_of i).words;
    stores_data = rw (step_world g w i d e);
    stores_output = rw (step_world g w i d e);
    any_count = λ n l. done_recounted g w i d h e n l;
    same_work = λ n l. work_recounted g w i d h e n l ∙ sym (work_recounted g w i d h e w.m.rptc in_bounds);
  }

pub every_pass_works : EveryPassWorks
every_pass_works g w i d h e = pass_works g w i d h e
