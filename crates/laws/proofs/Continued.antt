-- A run with further words behind its input: proofs.
use Rattle.std.specs.Prelude.{◌≡◌, Bool, ◌&&◌, List, ◌++◌, ℕ, zero, suc, ◌-◌, ◌≤◌, length}
use Rattle.std.proofs.Math.Path.{refl, sym, ap}
use Rattle.std.proofs.Common.{◌∙◌, arith, length-append}
use Rattle.std.proofs.Math.Bool.{true, false, not}
use Rattle.std.proofs.lemmas.Bool.{false≢true}
use Rattle.std.proofs.Math.ListN.{get_or-append}
use borrow.Author.Tests.{lt-leb, not-false}
use Rattle.machine.specs.declared.Machine.{Machine}
use Rattle.answers.specs.Answers.{Done}
use Rattle.answers.specs.Numbers.{is_done}
use Rattle.answers.proofs.NumberLaws.{done_is}
use Rattle.instructions.specs.declared.Instruction.{Instruction}
use Rattle.instructions.specs.declared.Instruction.TheVariants as Family
use Rattle.instructions.specs.declared.Transfers.{Transfers}
use Rattle.instructions.specs.declared.Decoded.{Decoded}
use Rattle.instructions.specs.declared.Decoded.TheVariants.{Built, Unbuilt, Nothing}
use Rattle.pages.specs.declared.Words.{Words}
use Rattle.pages.specs.Traits.{transfers_traits, traits_of}
use Rattle.pages.specs.Addressing.{addressed}
use Rattle.pages.specs.Rules.{rule_of}
use Rattle.pages.specs.TransfersRule.{transfers_rule}
use Rattle.board.specs.Given.{Given}
use Rattle.board.specs.Slices.{port_spent}
use Rattle.board.specs.SliceLaws.{longer_fits, port_left}
use Rattle.steps.specs.Rows.{NoneHolds}
use Rattle.steps.specs.Refusals.{takes, input_dry, pass_rows, access_rows, rest_rows}
use Rattle.steps.specs.Pass.{words_read, effect_of, passed_machine, passed_write, performed}
use Rattle.steps.specs.Plan.{Plan}
use Rattle.steps.specs.World.{World}
use Rattle.steps.specs.Table.{decoded_at, second_word, table_for, check_rows, fetch_rows, encoding_rows, instruction_rows, repeat_rows}
use Rattle.steps.specs.Step.{after_store, step_of, one_more, run_of}
use Rattle.steps.proofs.RowLaws.{row_not}
use Rattle.steps.specs.Tally.{plan_in}
use Rattle.steps.proofs.TableLaws.{step_plan}
use Rattle.laws.specs.Laws.{continued, with_further, ContinuedWith, RunContinued}
use Rattle.laws.proofs.Steps.{◌and◌, row_given}
use Rattle.laws.proofs.Runs.{run_none, run_refused, run_done, by_first, none_before, one_before}

-- ---- a step that is done, with further words behind the input

-- the words of a pass with another next word of the input, which IN alone looks at
next_is : Words → ℕ → Words
next_is words next = record { operand = words.operand; second = words.second; table = words.table; at = words.at; next = next }

transfers_next : (x : Transfers) (m : Machine) (w : ℕ) {a b : ℕ} → (takes (transfers_traits x).port ≡ true → a ≡ b) → transfers_rule x m w a ≡ transfers_rule x m w b
unfolding transfers_rule transfers_traits takes
transfers_next (Transfers.Dmov operand) m w h = refl
transfers_next (Transfers.In port operand) m w h = ap (λ (next : ℕ). transfers_rule (Transfers.In port operand) m w next) (h refl)
transfers_next (Transfers.Out port operand) m w h = refl

rule_next : (i : Instruction) (before m : Machine) (words : Words) {a b : ℕ} → (takes (traits_of i).port ≡ true → a ≡ b)
    → rule_of i before m (next_is words a) ≡ rule_of i before m (next_is words b)
unfolding rule_of traits_of next_is
rule_next (Family.Accumulator i) before m words h = refl
rule_next (Family.Multiplier i) before m words h = refl
rule_next (Family.Auxiliary i) before m words h = refl
rule_next (Family.Branches i) before m words h = refl
rule_next (Family.Transfers i) before m words h = transfers_next i m words.operand h
rule_next (Family.Modes i) before m words h = refl

module _ (g : Given) (further : List ℕ) (l : length (g.input ++ further) ≤ 1024) where
  longer : length g.input ≤ length (g.input ++ further)
  longer = omega (arith, length-append g.input further)

  left_further : (used : Bool) (cursor : ℕ) → used && port_spent (length g.input) cursor ≡ false → used && port_spent (length (g.input ++ further)) cursor ≡ false
  unfolding port_spent
  left_further true cursor h = lt-leb (length (g.input ++ further)) cursor (omega (arith, port_left true (length g.input) cursor h refl, longer))
  left_further false cursor h = refl

  -- the table of a built instruction: further words change rows 2 and 11 alone, and neither holds
  none_further : (i : Instruction) (d : List ℕ) (output_length : ℕ) (m : Machine) → NoneHolds (table_for (Built i) g d output_length m)
      → NoneHolds (table_for (Built i) (with_further g further) d output_length m)
  unfolding table_for check_rows fetch_rows encoding_rows instruction_rows repeat_rows pass_rows access_rows rest_rows input_dry second_word
  none_further i d output_length m n =
      let rows = table_for (Built i) g d output_length m in
      row_not rows "1" n
      and ap not (longer_fits m g.rom d g.input (g.input ++ further) output_length longer l (not-false _ (row_not rows "2" n)))
      and row_not rows "5 for the first word" n
      and refl
      and refl
      and row_not rows "7" n
      and row_not rows "5 for the second word" n
      and row_not rows "9" n
      and row_not rows "6" n
      and left_further (takes (traits_of i).port) m.input_cursor (row_not rows "11" n)
      and row_not rows "5 for a MAC or MACD table word" n
      and row_not rows "10" n
      and tt

  -- and the rule: IN takes a word that was there
  effect_further : (i : Instruction) (second : ℕ) (d : List ℕ) (m : Machine) → input_dry (traits_of i) (length g.input) m ≡ false
      → effect_of (traits_of i) i second (with_further g further) d m ≡ effect_of (traits_of i) i second g d m
  unfolding effect_of words_read input_dry next_is
  effect_further i second d m dry =
      rule_next i m (addressed (traits_of i).operand m) (words_read (traits_of i) second g d m)
      (λ taken. get_or-append g.input further 0 m.input_cursor (port_left (takes (traits_of i).port) (length g.input) m.input_cursor dry taken))

  performed_further : (i : Instruction) (second : ℕ) (d : List ℕ) (m : Machine) → input_dry (traits_of i) (length g.input) m ≡ false
      → performed (traits_of i) i second (with_further g further) d m ≡ performed (traits_of i) i second g d m
  unfolding performed passed_machine passed_write
  performed_further i second d m dry = rw (effect_further i second d m dry)

  module _ (w : World) (e : (step_of g w).answer ≡ Done) where
    pub record SameStep : Type 0 where
      pub answer_same : (step_of (with_further g further) w).answer ≡ Done
      pub plan_same : plan_in (with_further g further) w ≡ plan_in g w

    built_same : (i : Instruction) → decoded_at g w.«data» w.m ≡ Built i → NoneHolds (table_for (Built i) g w.«data» (length w.output) w.m) → SameStep
    unfolding table_for check_rows fetch_rows encoding_rows instruction_rows repeat_rows pass_rows access_rows rest_rows decoded_at second_word
    built_same i d n =
        let dry = row_not (table_for (Built i) g w.«data» (length w.output) w.m) "11" n in
        let done : (step_of (with_further g further) w).answer ≡ Done =
        (row_given (with_further g further) w).done_by (rw d (none_further i w.«data» (length w.output) w.m n)) in
        record {
          answer_same = done;
          plan_same =
              step_plan (with_further g further) w i d done
              ∙ (performed_further i (second_word i g w.«data» w.m) w.«data» w.m dry ∙ sym (step_plan g w i d e));
        }

    decoded_same : (x : Decoded) → decoded_at g w.«data» w.m ≡ x → NoneHolds (table_for x g w.«data» (length w.output) w.m) → SameStep
    unfolding table_for check_rows fetch_rows encoding_rows instruction_rows
    decoded_same (Built i) d n = built_same i d n
    decoded_same Unbuilt d n = absurd (false≢true (sym (row_not (table_for Unbuilt g w.«data» (length w.output) w.m) "4" n)))
    decoded_same Nothing d n = absurd (false≢true (sym (row_not (table_for Nothing g w.«data» (length w.output) w.m) "3" n)))

    pub step_further : SameStep
    step_further = decoded_same (decoded_at g w.«data» w.m) refl ((row_given g w).done_only e)

  pub world_same : (w : World) → (step_of g w).answer ≡ Done → (step_of (with_further g further) w).world ≡ (step_of g w).world
  unfolding step_of
  world_same w e = ap (λ (p : Plan). after_store p w) (step_further w e).plan_same

  -- ---- the run

  run_further : (budget : ℕ) (w : World) → ContinuedWith further g budget w
  run_further zero w = rw (run_none g w) (none_before (run_of (with_further g further) 0 w))
  run_further (suc n) w = by_first g w
      (λ d.
      let s = step_further w (done_is _ d) in
      let after = (step_of g w).world in
      let k = (run_of g n after).steps in
      let same : n - k ≡ suc n - suc k = omega arith in
      run_done (with_further g further) n w (ap is_done s.answer_same)
      ∙ (ap (λ (v : World). one_more (run_of (with_further g further) n v)) (world_same w (done_is _ d))
      ∙ (ap one_more (run_further n after)
      ∙ rw (run_done g n w d)
      (one_before k (run_of (with_further g further) (n - k) (run_of g n after).world)
      ∙ ap (λ (left : ℕ). continued (suc k) (run_of (with_further g further) left (run_of g n after).world)) same))))
      (λ r.
      let whole : suc n ≡ suc n - 0 = omega arith in
      rw (run_refused g n w r)
      (none_before (run_of (with_further g further) (suc n) w) ∙ ap (λ (left : ℕ). continued 0 (run_of (with_further g further) left w)) whole))

pub run_continued : RunContinued
run_continued g further budget w l = run_further g further l budget w
