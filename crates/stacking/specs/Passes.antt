-- The repeat instruction, the passes and the final product add, step by step.
use Rattle.std.specs.Prelude.{◌≡◌, Bool, cond, List, [], ◌∷◌, ℕ, zero, suc, ◌+◌, ◌-◌, ◌^◌, ◌≤◌, ◌<◌, set, None, Some}
use Rattle.std.proofs.Math.Path.{refl, ap}
use Rattle.std.proofs.Common.{◌∙◌, arith}
use Rattle.std.proofs.Math.Bool.{true, false}
use Rattle.std.proofs.Math.ListN.{get_or}
use Rattle.alu.specs.Registers.{wrapped_sum}
use Rattle.machine.specs.declared.Machine.{Machine}
use Rattle.answers.specs.Numbers.{is_done}
use Rattle.answers.proofs.NumberLaws.{done_is}
use Rattle.instructions.specs.declared.Instruction.{Instruction}
use Rattle.instructions.specs.declared.Decoded.TheVariants.{Built}
use Rattle.pages.specs.Traits.{traits_of, multiplier_traits}
use Rattle.pages.specs.Passes.{followed}
use Rattle.pages.specs.Addressing.{addressed, address_of}
use Rattle.pages.specs.MultiplierPages.{APAC, MAC, MACD}
use Rattle.pages.specs.MultiplierRule.{multiplier_rule}
use Rattle.pages.specs.Rules.{rule_of}
use Rattle.board.specs.declared.Region.{Region}
use Rattle.board.specs.Regions.{data_region, in_rom, in_program_b0, move_allowed}
use Rattle.board.specs.Windows.{window_of, program_word}
use Rattle.board.specs.WindowLaws.{rom_word, b0_word}
use Rattle.board.specs.Finding.{found_at}
use Rattle.board.specs.Given.{Given}
use Rattle.steps.specs.declared.Write.TheVariants as Write
use Rattle.steps.specs.Stores.{write_of, data_after, output_after}
use Rattle.steps.specs.OperandFound.{operand_found, found_for}
use Rattle.steps.specs.Pass.{words_read, effect_of, passed_machine, passed_write, performed}
use Rattle.steps.specs.World.{World}
use Rattle.steps.specs.Table.{decoded_at, second_word}
use Rattle.steps.specs.Step.{after_store, step_of, run_of, world_after}
use Rattle.steps.proofs.TableLaws.{step_world}
use Rattle.laws.specs.Repeating.{Repeats}
use Rattle.laws.proofs.RepeatingLaws.{repeat_begins}
use Rattle.laws.proofs.OperandLaws.{Alike, operand_alike}
use Rattle.laws.proofs.Runs.{runs_on}
use Rattle.frame_sums.specs.Frames.{Pair, accumulated, passed, Every, Words}
use Rattle.stacking.specs.Stacking.{pair_for, pair_at, pairs_read, Accumulates, by_mac, by_macd, Sized}
use Rattle.stacking.specs.Passing.{accumulation_of, followed_follows, again, goes_past, mac_works, move_keeps}

-- ---- words of 16 bits
sized_set : (l : List ℕ) (j word : ℕ) → ((i : ℕ) → get_or l i 0 < 2 ^ 16) → word < 2 ^ 16 → (i : ℕ) → get_or (set l j word) i 0 < 2 ^ 16
sized_set [] j word h b i = h i
sized_set (x ∷ xs) zero word h b zero = b
sized_set (x ∷ xs) zero word h b (suc i) = h (suc i)
sized_set (x ∷ xs) (suc j) word h b zero = h zero
sized_set (x ∷ xs) (suc j) word h b (suc i) = sized_set xs j word (λ k. h (suc k)) b i

pub set_sized : (l : List ℕ) (j word : ℕ) → Sized l → word < 2 ^ 16 → Sized (set l j word)
set_sized l j word s b = record { bits = sized_set l j word s.bits b }

pub program_sized : (cnf x : ℕ) (rom d : List ℕ) → Sized rom → Sized d → program_word cnf x rom d < 2 ^ 16
unfolding program_word window_of
program_sized cnf x rom d r s = by (in_rom x) (in_program_b0 cnf x) refl refl
  where
    by : (t u : Bool) → in_rom x ≡ t → in_program_b0 cnf x ≡ u → program_word cnf x rom d < 2 ^ 16
    by true u e f = rw (rom_word cnf x rom d e) (r.bits x)
    by false true e f = rw (b0_word cnf x rom d f) (s.bits (x - 0xFF00 + 0x200))
    by false false e f = rw (e, f) (omega arith)

-- ---- the repeat instruction
pub record Began (w v : World) (k : ℕ) : Type 0 where
  pub accumulation : accumulation_of v.m ≡ accumulation_of w.m
  pub ovm : v.m.ovm ≡ w.m.ovm
  pub pm : v.m.pm ≡ w.m.pm
  pub cnf : v.m.cnf ≡ w.m.cnf
  pub rptc : v.m.rptc ≡ k
  pub pc : v.m.pc ≡ wrapped_sum w.m.pc 1
  pub same_data : v.«data» ≡ w.«data»

module _ (g : Given) (w : World) where
  pub began : (r : Instruction) (k : ℕ) → Repeats w r k → decoded_at g w.«data» w.m ≡ Built r → is_done (step_of g w).answer ≡ true → Began w (step_of g w).world k
  unfolding accumulation_of
  began r k gives is done =
      let a = operand_alike (traits_of r).operand w.m in
      rw (repeat_begins g w r k gives is (done_is _ done))
      (record { accumulation = rw (a.acc, a.p, a.ov); ovm = a.ovm; pm = a.pm; cnf = a.cnf; rptc = refl; pc = refl; same_data = refl })

-- ---- one pass
pub record Went (g : Given) (w v : World) (pair : Pair) : Type 0 where
  pub accumulation : accumulation_of v.m ≡ accumulated w.m.pm w.m.ovm pair (accumulation_of w.m)
  pub ovm : v.m.ovm ≡ w.m.ovm
  pub pm : v.m.pm ≡ w.m.pm
  pub cnf : v.m.cnf ≡ w.m.cnf
  pub program : (x : ℕ) → program_word w.m.cnf x g.rom v.«data» ≡ program_word w.m.cnf x g.rom w.«data»
  pub sized : Sized w.«data» → Sized v.«data»
  pub repeats_on : (k : ℕ) → w.m.rptc ≡ suc k → (v.m.rptc ≡ k) × (v.m.pc ≡ w.m.pc)
  pub ends : w.m.rptc ≡ 0 → v.m.pc ≡ wrapped_sum w.m.pc 2

-- the machine of a pass, whatever it stores
module _ (g : Given) (w : World) (n : Machine) (a : Alike w.m n) (word table at : ℕ) (d output : List ℕ)
    (program : (x : ℕ) → program_word w.m.cnf x g.rom d ≡ program_word w.m.cnf x g.rom w.«data») (sized : Sized w.«data» → Sized d) where
  went : Went g w (record { m = followed (MAC word table at n) None 2 true; «data» = d; output = output }) (record { data_word = word; program_word = table })
  unfolding MAC APAC
  went =
      let f = followed_follows (MAC word table at n) None 2 true in
      record {
        accumulation = f.accumulation ∙ mac_works w.m n a word table at;
        ovm = f.ovm ∙ a.ovm;
        pm = f.pm ∙ a.pm;
        cnf = f.cnf ∙ a.cnf;
        program = program;
        sized = sized;
        repeats_on = λ k e. let on = again (MAC word table at n) 2 k (a.rptc ∙ e) in (on.0, on.1 ∙ a.pc);
        ends = λ e. goes_past (MAC word table at n) 2 (a.rptc ∙ e) ∙ ap (λ (p : ℕ). wrapped_sum p 2) a.pc;
      }

-- what a data move leaves of the data, whether it is made or not
module _ (rom : List ℕ) (region : Region) (cnf a word : ℕ) (d : List ℕ) (b : word < 2 ^ 16) where
  record Moved (e : List ℕ) : Type 0 where
    program : (x : ℕ) → program_word cnf x rom e ≡ program_word cnf x rom d
    sized : Sized d → Sized e

  moved_by : (t : Bool) → move_allowed region cnf a ≡ t → Moved (data_after (cond t (Write.Data (a + 1) word) Write.Nothing) d)
  unfolding data_after
  moved_by true e = record { program = move_keeps region cnf a word rom d e; sized = λ s. set_sized d (a + 1) word s b }
  moved_by false e = record { program = λ x. refl; sized = λ s. s }

module _ (g : Given) (w : World) (data_sized : Sized w.«data») where
  goes : (i : Instruction) → Accumulates i
      → Went g w (after_store (performed (traits_of i) i (second_word i g w.«data» w.m) g w.«data» w.m) w) (pair_for (Built i) g w)
  unfolding after_store performed passed_machine passed_write effect_of traits_of multiplier_traits rule_of multiplier_rule MACD write_of data_after output_after words_read found_for operand_found found_at pair_for
  goes _ (by_mac a) =
      went g w (addressed (Some a) w.m) (operand_alike (Some a) w.m) _ _ _ w.«data» _ (λ x. refl) (λ s. s)
  goes _ (by_macd a) =
      let word = get_or w.«data» (address_of (Some a) w.m) 0 in
      let v = moved_by g.rom (data_region w.m.cnf (address_of (Some a) w.m)) w.m.cnf (address_of (Some a) w.m) word w.«data» (data_sized.bits (address_of (Some a) w.m)) (move_allowed (data_region w.m.cnf (address_of (Some a) w.m)) w.m.cnf (address_of (Some a) w.m)) refl in
      went g w (addressed (Some a) w.m) (operand_alike (Some a) w.m) word _ _ _ _ v.program v.sized

  pub goes_on : (i : Instruction) → Accumulates i → decoded_at g w.«data» w.m ≡ Built i → is_done (step_of g w).answer ≡ true
      → Went g w (step_of g w).world (pair_at g w)
  unfolding pair_at
  goes_on i acc is done = rw (step_world g w i is (done_is _ done), is) (goes i acc)

  -- the words of a pass have 16 bits
  pair_sized : (i : Instruction) → Accumulates i → Sized g.rom → ((pair_for (Built i) g w).data_word < 2 ^ 16) × ((pair_for (Built i) g w).program_word < 2 ^ 16)
  unfolding pair_for words_read found_for operand_found found_at traits_of multiplier_traits
  pair_sized _ (by_mac a) r = (data_sized.bits _, program_sized _ _ g.rom w.«data» r data_sized)
  pair_sized _ (by_macd a) r = (data_sized.bits _, program_sized _ _ g.rom w.«data» r data_sized)

  pub read_sized : (i : Instruction) → Accumulates i → decoded_at g w.«data» w.m ≡ Built i → Sized g.rom → ((pair_at g w).data_word < 2 ^ 16) × ((pair_at g w).program_word < 2 ^ 16)
  unfolding pair_at
  read_sized i acc is r = rw is (pair_sized i acc r)

-- k steps and then j
unfoldable pub plus : ℕ → ℕ → ℕ
plus zero j = j
plus (suc k) j = suc (plus k j)

pub plus_is : (k j : ℕ) → plus k j ≡ k + j
unfolding plus
plus_is zero j = omega arith
plus_is (suc k) j = omega (arith, plus_is k j)

-- ---- n passes of one repeat of k + 1, and j steps after them
pub record Passed (g : Given) (n k j : ℕ) (w v : World) : Type 0 where
  pub accumulation : accumulation_of v.m ≡ passed w.m.pm w.m.ovm (pairs_read g n w) (accumulation_of w.m)
  pub ovm : v.m.ovm ≡ w.m.ovm
  pub pm : v.m.pm ≡ w.m.pm
  pub cnf : v.m.cnf ≡ w.m.cnf
  pub pc : n ≡ suc k → v.m.pc ≡ wrapped_sum w.m.pc 2
  pub program : (x : ℕ) → program_word w.m.cnf x g.rom v.«data» ≡ program_word w.m.cnf x g.rom w.«data»
  pub words : Words (pairs_read g n w)
  pub rest_done : is_done (run_of g j v).answer ≡ true
  pub same_end : (run_of g (plus n j) w).world ≡ (run_of g j v).world

-- the next pass meets the same instruction
again_there : (g : Given) (w v : World) (pair : Pair) (i : Instruction) → Went g w v pair → decoded_at g w.«data» w.m ≡ Built i → v.m.pc ≡ w.m.pc → decoded_at g v.«data» v.m ≡ Built i
unfolding decoded_at
again_there g w v pair i went_on is p = rw (went_on.cnf, p, went_on.program w.m.pc) is

pub all_passed : (g : Given) (i : Instruction) → Accumulates i → Sized g.rom → (n k j : ℕ) (w : World) → Sized w.«data»
    → decoded_at g w.«data» w.m ≡ Built i → w.m.rptc ≡ k → n ≤ suc k → is_done (run_of g (plus n j) w).answer ≡ true
    → Passed g n k j w (world_after g n w)
unfolding plus world_after pairs_read passed Words Every
all_passed g i acc r zero k j w s is e l done =
    record {
      accumulation = refl;
      ovm = refl;
      pm = refl;
      cnf = refl;
      pc = λ none. absurd (omega arith);
      program = λ x. refl;
      words = tt;
      rest_done = done;
      same_end = refl;
    }
all_passed g i acc r (suc zero) k j w s is e l done =
    let o = runs_on g j w done in
    let went_on = goes_on g w s i acc is o.step_done in
    record {
      accumulation = went_on.accumulation;
      ovm = went_on.ovm;
      pm = went_on.pm;
      cnf = went_on.cnf;
      pc = λ all. went_on.ends (omega arith);
      program = went_on.program;
      words = (read_sized g w s i acc is r, tt);
      rest_done = o.rest_done;
      same_end = o.same_end;
    }
all_passed g i acc r (suc (suc n)) zero j w s is e l done = absurd (omega arith)
all_passed g i acc r (suc (suc n)) (suc k) j w s is e l done =
    let o = runs_on g (plus (suc n) j) w done in
    let went_on = goes_on g w s i acc is o.step_done in
    let h = went_on.repeats_on k e in
    let same = again_there g w (step_of g w).world (pair_at g w) i went_on is h.1 in
    let ih = all_passed g i acc r (suc n) k j (step_of g w).world (went_on.sized s) same h.0 (omega arith) o.rest_done in
    record {
      accumulation = ih.accumulation ∙ by_cells g (suc n) w went_on;
      ovm = ih.ovm ∙ went_on.ovm;
      pm = ih.pm ∙ went_on.pm;
      cnf = ih.cnf ∙ went_on.cnf;
      pc = λ all. ih.pc (omega arith) ∙ ap (λ (p : ℕ). wrapped_sum p 2) h.1;
      program = λ x. by_cnf g.rom x w (step_of g w).world (world_after g (suc n) (step_of g w).world) went_on.cnf (ih.program x) ∙ went_on.program x;
      words = (read_sized g w s i acc is r, ih.words);
      rest_done = ih.rest_done;
      same_end = o.same_end ∙ ih.same_end;
    }
  where
    by_cells : (g : Given) (n : ℕ) (w : World) → Went g w (step_of g w).world (pair_at g w)
        → passed (step_of g w).world.m.pm (step_of g w).world.m.ovm (pairs_read g n (step_of g w).world) (accumulation_of (step_of g w).world.m)
        ≡ passed w.m.pm w.m.ovm (pairs_read g n (step_of g w).world) (accumulated w.m.pm w.m.ovm (pair_at g w) (accumulation_of w.m))
    by_cells g n w went_on = rw (went_on.pm, went_on.ovm, went_on.accumulation)

    by_cnf : (rom : List ℕ) (x : ℕ) (w v u : World) → v.m.cnf ≡ w.m.cnf → program_word v.m.cnf x rom u.«data» ≡ program_word v.m.cnf x rom v.«data»
        → program_word w.m.cnf x rom u.«data» ≡ program_word w.m.cnf x rom v.«data»
    by_cnf rom x w v u e h = rw e at h
