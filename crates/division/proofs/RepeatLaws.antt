-- The exposure code divides: proofs.
use Rattle.std.specs.Prelude.{◌≡◌, true, Some}
use Rattle.std.proofs.Math.Path.{refl, ap, ap₂}
use Rattle.std.proofs.Common.{◌∙◌, arith}
use mathlib.Core.List.{List}
use Prim.Native.Nat.{ℕ, zero, suc, ◌/◌, ◌%◌}
use Rattle.std.proofs.Math.ListN.{get_or}
use Rattle.alu.specs.Word.{low_half, high_half}
use Rattle.alu.specs.Registers.{wrapped_sum}
use Rattle.machine.specs.declared.Machine.{Machine}
use Rattle.machine.specs.Cells.{with_pc, with_mid, with_rptc}
use Rattle.answers.specs.Numbers.{is_done}
use Rattle.answers.proofs.NumberLaws.{done_is}
use Rattle.operands.specs.declared.Address.{Address}
use Rattle.operands.specs.declared.Address.TheVariants.{Direct, Indirect}
use Rattle.instructions.specs.declared.Decoded.TheVariants.{Built}
use Rattle.pages.specs.Traits.{traits_of, accumulator_traits}
use Rattle.pages.specs.Addressing.{address_of}
use Rattle.pages.specs.AccumulatorPages.{SUBC}
use Rattle.pages.specs.AccumulatorRule.{accumulator_rule}
use Rattle.pages.specs.Rules.{rule_of}
use Rattle.board.specs.Finding.{found_at}
use Rattle.board.specs.Given.{Given}
use Rattle.steps.specs.Stores.{write_of, data_after}
use Rattle.steps.specs.OperandFound.{operand_found, found_for}
use Rattle.steps.specs.Pass.{words_read, effect_of, passed_write}
use Rattle.steps.specs.World.{World}
use Rattle.steps.specs.Table.{decoded_at}
use Rattle.steps.specs.Step.{step_of, run_of, world_after}
use Rattle.laws.specs.Laws.{PassWorks, effect_at}
use Rattle.laws.proofs.Repeats.{every_pass_works}
use Rattle.laws.specs.Repeating.{word_ahead}
use Rattle.laws.proofs.RepeatingLaws.{repeat_begins}
use Rattle.laws.proofs.OperandLaws.{operand_alike}
use Rattle.laws.proofs.Runs.{runs_on, run_to}
use Rattle.division.specs.Division.{subc, SubcPass, SubcPasses}
use Rattle.division.specs.Exposure.{Still, DividesByRepeat}
use Rattle.division.proofs.DivisionLaws.{divides}
use Rattle.division.specs.ExposureLaws.{still_machine}

-- ---- one pass with an operand that changes nothing

-- SUBC's rule, and what follows a pass that goes on, leave the operand's address as it was
same_address : (a : Address) (m : Machine) (word pc k : ℕ) → address_of (Some a) (with_mid (with_rptc (with_pc (SUBC word m) pc) k) 1) ≡ address_of (Some a) m
unfolding address_of SUBC
same_address (Direct offset) m word pc k = refl
same_address (Indirect i) m word pc k = refl

module _ (g : Given) (d : ℕ) (a : Address) (still : Still a) where
  -- the next step is a pass of SUBC, with k more to come; it is to read the word d
  record Ready (k : ℕ) (v : World) : Type 0 where
    at_subc : decoded_at g v.«data» v.m ≡ Built (subc a)
    count : v.m.rptc ≡ k
    divisor : get_or v.«data» (address_of (Some a) v.m) 0 ≡ d

  module _ (k : ℕ) (v : World) (r : Ready k v) (done : is_done (step_of g v).answer ≡ true) where
    works : PassWorks g v (subc a)
    unfolding traits_of accumulator_traits
    works = every_pass_works g v (subc a) r.at_subc refl (done_is _ done)

    is_pass : SubcPass g d v
    unfolding traits_of accumulator_traits words_read found_for operand_found found_at
    is_pass = record { operand = a; at_subc = r.at_subc; not_refused = done; reads = r.divisor }

    same_data : (step_of g v).world.«data» ≡ v.«data»
    unfolding traits_of accumulator_traits passed_write effect_of rule_of accumulator_rule write_of data_after
    same_data = works.stores_data

    -- the cells that a pass changes are ACC, OV and C, and what follows it
    effect : (effect_at g v (subc a)).m ≡ SUBC (get_or v.«data» (address_of (Some a) v.m) 0) v.m
    unfolding traits_of accumulator_traits effect_of rule_of accumulator_rule words_read found_for operand_found found_at
    effect = ap (SUBC (get_or v.«data» (address_of (Some a) v.m) 0)) (still_machine a still v.m)

  again_ready : (k : ℕ) (v : World) → Ready (suc k) v → is_done (step_of g v).answer ≡ true → Ready k (step_of g v).world
  unfolding decoded_at SUBC
  again_ready k v r done =
      let e = (works (suc k) v r done).goes_on k r.count ∙ ap (λ (m : Machine). with_mid (with_rptc (with_pc m v.m.pc) k) 1) (effect (suc k) v r done) in
      let f = same_data (suc k) v r done in
      record {
        at_subc = ap₂ (λ (l : List ℕ) (m : Machine). decoded_at g l m) f e ∙ r.at_subc;
        count = ap (λ (m : Machine). m.rptc) e;
        divisor = ap₂ (λ (l : List ℕ) (m : Machine). get_or l (address_of (Some a) m) 0) f e ∙ ap (λ (x : ℕ). get_or v.«data» x 0) (same_address a v.m _ v.m.pc k) ∙ r.divisor;
      }

  -- the passes of the repeat, to the last
  record Repeated (n : ℕ) (v u : World) : Type 0 where
    all_pass : SubcPasses g d n v
    past : u.m.pc ≡ wrapped_sum v.m.pc 1
    same : u.«data» ≡ v.«data»

  first_and_rest : (n : ℕ) (v : World) → SubcPass g d v → SubcPasses g d n (step_of g v).world → SubcPasses g d (suc n) v
  unfolding world_after
  first_and_rest n v first rest zero l = first
  first_and_rest n v first rest (suc j) l = rest j (omega arith)

  repeated : (k : ℕ) (v : World) → Ready k v → is_done (run_of g (suc k) v).answer ≡ true → Repeated (suc k) v (world_after g (suc k) v)
  unfolding world_after traits_of accumulator_traits
  repeated zero v r done =
      let o = runs_on g 0 v done in
      record {
        all_pass = first_and_rest zero v (is_pass zero v r o.step_done) (λ j l. absurd (omega arith));
        past = ap (λ (m : Machine). m.pc) ((works zero v r o.step_done).ends r.count);
        same = same_data zero v r o.step_done;
      }
  repeated (suc k) v r done =
      let o = runs_on g (suc k) v done in
      let rest = repeated k (step_of g v).world (again_ready k v r o.step_done) o.rest_done in
      let stays = ap (λ (m : Machine). m.pc) ((works (suc k) v r o.step_done).goes_on k r.count) in
      record {
        all_pass = first_and_rest (suc k) v (is_pass (suc k) v r o.step_done) rest.all_pass;
        past = rest.past ∙ ap (λ (pc : ℕ). wrapped_sum pc 1) stays;
        same = rest.same ∙ same_data (suc k) v r o.step_done;
      }

two_words : (pc : ℕ) → wrapped_sum (wrapped_sum pc 1) 1 ≡ wrapped_sum pc 2
unfolding wrapped_sum
two_words pc = omega arith

pub divides_by_repeat : DividesByRepeat
unfolding decoded_at word_ahead world_after
divides_by_repeat g d w few h c =
    let o = runs_on g 16 w c.not_refused in
    let v = (step_of g w).world in
    let begun = repeat_begins g w c.repeat 15 c.repeat_gives c.repeat_first (done_is _ o.step_done) in
    let a = operand_alike (traits_of c.repeat).operand w.m in
    let acc : v.m.acc ≡ w.m.acc = ap (λ (u : World). u.m.acc) begun ∙ a.acc in
    let ov : v.m.ov ≡ w.m.ov = ap (λ (u : World). u.m.ov) begun ∙ a.ov in
    let pc : v.m.pc ≡ wrapped_sum w.m.pc 1 = ap (λ (u : World). u.m.pc) begun in
    let kept : v.«data» ≡ w.«data» = ap (λ (u : World). u.«data») begun in
    let cnf : v.m.cnf ≡ w.m.cnf = ap (λ (u : World). u.m.cnf) begun ∙ a.cnf in
    let r = repeated g d c.operand c.still 15 v (record {
      at_subc = rw (cnf, pc, kept) c.subc_second;
      count = ap (λ (u : World). u.m.rptc) begun;
      divisor = rw kept c.divisor_there;
    }) o.rest_done in
    let q = divides g d v (rw acc few) h r.all_pass in
    let end : (run_of g 17 w).world ≡ world_after g 16 v = run_to g 17 17 w (omega arith) c.not_refused in
    record {
      divided = record {
        quotient = ap (λ (u : World). low_half u.m.acc) end ∙ q.quotient ∙ ap (λ (n : ℕ). n / d) acc;
        remainder = ap (λ (u : World). high_half u.m.acc) end ∙ q.remainder ∙ ap (λ (n : ℕ). n % d) acc;
        overflow = ap (λ (u : World). u.m.ov) end ∙ q.overflow ∙ ov;
      };
      past_both_words = ap (λ (u : World). u.m.pc) end ∙ r.past ∙ ap (λ (p : ℕ). wrapped_sum p 1) pc ∙ two_words w.m.pc;
      same_data = ap (λ (u : World). u.«data») end ∙ r.same ∙ kept;
    }
