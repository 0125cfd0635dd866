-- Demand 3, over every run that is not refused.
use Rattle.std.specs.Prelude.{◌≡◌, true, List, length, None}
use Rattle.std.proofs.Math.Path.{refl, ap}
use Rattle.std.proofs.Common.{sym, ◌∙◌, subst}
use Prim.Native.Nat.{ℕ, zero, suc, ◌+◌, ◌-◌, ◌≤◌}
use native.Mathlib.Omega.{arith}
use Rattle.std.proofs.Math.Decide.{dec_le}
use Rattle.alu.specs.Registers.{wrapped_sum}
use Rattle.answers.specs.Numbers.{is_done}
use Rattle.answers.proofs.NumberLaws.{done_is}
use Rattle.instructions.specs.declared.Instruction.TheVariants as Family
use Rattle.instructions.specs.declared.Multiplier.TheVariants.{Apac}
use Rattle.instructions.specs.declared.Decoded.TheVariants.{Built}
use Rattle.pages.specs.Traits.{traits_of, multiplier_traits}
use Rattle.pages.specs.Addressing.{addressed}
use Rattle.pages.specs.MultiplierPages.{APAC}
use Rattle.pages.specs.MultiplierRule.{multiplier_rule}
use Rattle.pages.specs.Rules.{rule_of}
use Rattle.steps.specs.Pass.{effect_of, passed_machine, performed}
use Rattle.steps.specs.World.{World}
use Rattle.steps.specs.Table.{decoded_at, second_word}
use Rattle.steps.specs.Step.{after_store, step_of, run_of, world_after}
use Rattle.steps.proofs.TableLaws.{step_world}
use Rattle.laws.specs.Repeating.{word_ahead}
use Rattle.laws.proofs.OperandLaws.{operand_alike}
use Rattle.laws.proofs.Runs.{run_ended, RunsOn, runs_on, run_to}
use Rattle.frame_sums.specs.Frames.{Pair, Accumulation, from_zero, product_added, passed, stacked, Words}
use Rattle.frame_sums.proofs.FrameLaws.{passes_keep_ov, below_128, at_128}
use Rattle.stacking.specs.Stacking.{pairs_read, Stacks, last_world, words, StaysZero, AtApac, Holds, HoldsAt128}
use Rattle.stacking.specs.Passing.{accumulation_of, followed_follows, apac_works}
use Rattle.stacking.specs.Passes.{plus, plus_is, Began, began, Passed, all_passed}
use Rattle.board.specs.Given.{Given}

-- the final product add
apac_page : (g : Given) (u : World) (second : ℕ)
    → accumulation_of (after_store (performed (traits_of (Family.Multiplier Apac)) (Family.Multiplier Apac) second g u.«data» u.m) u).m ≡ product_added u.m.pm u.m.ovm (accumulation_of u.m)
unfolding after_store performed passed_machine effect_of traits_of multiplier_traits rule_of multiplier_rule
apac_page g u second =
    (followed_follows (APAC (addressed None u.m)) None 1 true).accumulation
    ∙ apac_works u.m (addressed None u.m) (operand_alike None u.m)

apac_step : (g : Given) (u : World) → decoded_at g u.«data» u.m ≡ Built (Family.Multiplier Apac) → is_done (step_of g u).answer ≡ true
    → accumulation_of (step_of g u).world.m ≡ product_added u.m.pm u.m.ovm (accumulation_of u.m)
apac_step g u is done =
    rw (step_world g u (Family.Multiplier Apac) is (done_is _ done))
    (apac_page g u (second_word (Family.Multiplier Apac) g u.«data» u.m))

-- as many pairs as steps
pairs_length : (g : Given) (n : ℕ) (w : World) → length (pairs_read g n w) ≡ n
unfolding pairs_read
pairs_length g zero w = refl
pairs_length g (suc n) w = ap suc (pairs_length g n (step_of g w).world)

-- the final add after the passes is a stack of frames
adds_up : (pm ovm ovm' : ℕ) (ws : List Pair) (a : Accumulation) → a ≡ passed 3 ovm' ws from_zero → pm ≡ 3 → ovm ≡ ovm' → product_added pm ovm a ≡ stacked 3 ovm' ws
unfolding stacked
adds_up pm ovm ovm' ws a e f g = rw (e, f, g)

module _ (g : Given) (w : World) (k : ℕ) (s : Stacks g w k) where
  -- the run of n + 2 steps, as its first step, the passes, and the last
  count_is : k + 3 ≡ suc (plus (suc k) 1)
  count_is = omega (arith, plus_is (suc k) 1)

  first : RunsOn g (plus (suc k) 1) w
  first = runs_on g (plus (suc k) 1) w (subst (λ (n : ℕ). is_done (run_of g n w).answer ≡ true) count_is s.not_refused)

  v : World
  v = (step_of g w).world

  start : Began w v k
  unfolding v
  start = began g w s.repeat k s.repeat_gives s.repeat_first first.step_done

  mac_there : decoded_at g v.«data» v.m ≡ Built s.accumulate
  unfolding decoded_at word_ahead
  mac_there = rw (start.cnf, start.pc, start.same_data) s.accumulate_second

  u : World
  u = world_after g (suc k) v

  -- the first n passes, and the j steps that are left then
  passes : (n j : ℕ) → n ≤ suc k → plus (suc k) 1 ≡ plus n j → Passed g n k j v (world_after g n v)
  unfolding v
  passes n j l left =
      all_passed g s.accumulate s.accumulates s.rom_sized n k j v
      (rw start.same_data s.data_sized) mac_there start.rptc l
      (subst (λ (steps : ℕ). is_done (run_of g steps v).answer ≡ true) left first.rest_done)

  middle : Passed g (suc k) k 1 v u
  unfolding u
  middle = passes (suc k) 1 (omega arith) refl

  at_apac : u.m.pc ≡ wrapped_sum w.m.pc 3
  unfolding wrapped_sum
  at_apac = omega (arith, middle.pc refl, start.pc)

  apac_there : decoded_at g u.«data» u.m ≡ Built (Family.Multiplier Apac)
  unfolding decoded_at word_ahead
  apac_there =
      rw (middle.cnf, at_apac, middle.program (wrapped_sum w.m.pc 3), start.cnf, start.same_data) s.apac_third

  final : RunsOn g 0 u
  final = runs_on g 0 u middle.rest_done

  end_is : last_world g w k ≡ (step_of g u).world
  unfolding last_world v
  end_is =
      ap (λ (n : ℕ). (run_of g n w).world) count_is
      ∙ first.same_end ∙ middle.same_end ∙ final.same_end ∙ run_ended g (step_of g u).world

  from_zero_lem : accumulation_of v.m ≡ from_zero
  unfolding accumulation_of from_zero
  from_zero_lem = start.accumulation ∙ rw (s.acc_zero, s.p_zero, s.ov_zero)

  passes_come_to : (n j : ℕ) → n ≤ suc k → plus (suc k) 1 ≡ plus n j → accumulation_of (world_after g n v).m ≡ passed 3 w.m.ovm (pairs_read g n v) from_zero
  passes_come_to n j l left = (passes n j l left).accumulation ∙ rw (start.pm ∙ s.shift_three, start.ovm, from_zero_lem)

  pub comes_to : accumulation_of (last_world g w k).m ≡ stacked 3 w.m.ovm (words g w k)
  unfolding words v u
  comes_to =
      ap (λ (x : World). accumulation_of x.m) end_is
      ∙ apac_step g u apac_there final.step_done
      ∙ adds_up _ _ _ _ _ (passes_come_to (suc k) 1 (omega arith) refl) (middle.pm ∙ start.pm ∙ s.shift_three) (middle.ovm ∙ start.ovm)

  count : length (words g w k) ≡ suc k
  unfolding words
  count = pairs_length g (suc k) (step_of g w).world

  fit : Words (words g w k)
  unfolding words v
  fit = middle.words

  -- ---- OV on the way

  zero_in_passes : suc k ≤ 128 → (n : ℕ) → n ≤ suc k → (world_after g n v).m.ov ≡ 0
  unfolding accumulation_of
  zero_in_passes h n l =
      let left : plus (suc k) 1 ≡ plus n (k + 2 - n) = omega (arith, plus_is (suc k) 1, plus_is n (k + 2 - n)) in
      ap (λ (x : Accumulation). x.ov) (passes_come_to n (k + 2 - n) l left)
      ∙ passes_keep_ov (pairs_read g n v) w.m.ovm (omega (arith, pairs_length g n v)) (passes n (k + 2 - n) l left).words

  zero_before_last : suc k ≤ 128 → StaysZero g w (k + 2)
  unfolding world_after v
  zero_before_last h zero l = ap (λ (x : World). x.m.ov) (run_ended g w) ∙ s.ov_zero
  zero_before_last h (suc j) l =
      ap (λ (x : World). x.m.ov) (run_to g (suc j) (k + 3) w (omega arith) s.not_refused)
      ∙ zero_in_passes h j (omega arith)

  -- and after the last step, where that leaves it 0
  zero_to_last : suc k ≤ 128 → (last_world g w k).m.ov ≡ 0 → StaysZero g w (k + 3)
  unfolding last_world
  zero_to_last h last j l = by (dec_le j (k + 2))
    where
      by : Dec (j ≤ k + 2) → (run_of g j w).world.m.ov ≡ 0
      by (yes before) = zero_before_last h j before
      by (no past) = ap (λ (n : ℕ). (run_of g n w).world.m.ov) (omega arith) ∙ last

  last_add : AtApac g (run_of g (k + 2) w).world
  unfolding world_after u v
  last_add =
      let n : k + 2 ≡ suc (suc k) = omega arith in
      let e = ap (λ (j : ℕ). (run_of g j w).world) n ∙ run_to g (suc (suc k)) (k + 3) w (omega arith) s.not_refused in
      rw e apac_there

  -- "for n from 1 to 127 OV stays 0 and 0 <= S - 64 A <= 63 n"
  pub demand : suc k ≤ 127 → Holds g w k
  unfolding accumulation_of
  demand h =
      let b = below_128 (words g w k) (suc k) w.m.ovm count fit (omega arith) (omega arith) in
      record {
        ov = zero_to_last (omega arith) (ap (λ (x : Accumulation). x.ov) comes_to ∙ b.0);
        near = rw (ap (λ (x : Accumulation). x.acc) comes_to) b.1;
      }

  -- "for n = 128 OV is set exactly when all 256 words read are -32768, and otherwise the same bounds hold"
  pub demand_128 : suc k ≡ 128 → HoldsAt128 g w k
  unfolding accumulation_of
  demand_128 h =
      let b = at_128 (words g w k) w.m.ovm (count ∙ h) fit in
      let o = ap (λ (x : Accumulation). x.ov) comes_to in
      record {
        before_the_last = λ j l. zero_before_last (omega arith) j (omega arith);
        last_is_apac = last_add;
        set_by_the_last = ((λ e. b.0.0 (sym o ∙ e)), (λ a. o ∙ b.0.1 a));
        otherwise = λ none.
            let c = b.1 none in
            record { ov = zero_to_last (omega arith) (o ∙ c.0); near = rw (ap (λ (x : Accumulation). x.acc) comes_to, h) c.1 };
      }
