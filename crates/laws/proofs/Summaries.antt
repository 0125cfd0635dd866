-- A run that a summary is lent to: proofs.
use Rattle.std.specs.Prelude.{◌≡◌, Bool, ltb, length, replicate}
use Rattle.std.proofs.Math.Path.{refl, ap}
use Rattle.std.proofs.Common.{subst, sym, ◌∙◌, get_or-set_same, get_or-set_other}
use Rattle.std.proofs.Math.Bool.{true, false, cond, false≢true}
use mathlib.Core.List.{List, [], ◌∷◌, ◌++◌}
use Prim.Native.Nat.{ℕ, zero, suc, ◌+◌, ◌/◌, ◌-◌, ◌≤◌, ◌<◌, min}
use native.Mathlib.Omega.{arith}
use borrow.Author.Tests.{eqb-true, eqb-false, eq-eqb, ne_eqb, lt-ltb, ltb-true, ltb-false, le-leb}
use Rattle.std.proofs.Math.Dec.{eqb}
use Rattle.std.proofs.Math.ListN.{get_or}
use Rattle.answers.specs.Answers.{Answer}
use Rattle.answers.specs.Answers.{SummaryUnfit}
use Rattle.answers.specs.Numbers.{number_of, is_done}
use Rattle.board.specs.Given.{Given}
use Rattle.board.specs.Regions.{within, data_region, move_allowed}
use Rattle.board.specs.RegionLaws.{bounds}
use Rattle.steps.specs.Plan.{Plan}
use Rattle.steps.specs.declared.Write.{Write}
use Rattle.steps.specs.declared.Write.TheVariants as Write
use Rattle.steps.proofs.StoreLaws.{WriteFits}
use Rattle.steps.proofs.StepLaws.{step_fits}
use Rattle.steps.specs.Stores.{write_of}
use Rattle.steps.specs.Pass.{performed}
use Rattle.steps.proofs.TableLaws.{step_plan}
use Rattle.pages.specs.declared.Store.{Store}
use Rattle.pages.specs.Traits.{traits_of}
use Rattle.pages.specs.Addressing.{address_of}
use Rattle.steps.specs.World.{World, RunOutcome}
use Rattle.steps.specs.Table.{checks_of}
use Rattle.steps.specs.Step.{step_of, after_store, run_of}
use Rattle.steps.specs.OperandFound.{none_outside}
use Rattle.steps.specs.Tally.{plan_in, plans_of, tallied, add_outside, outside_of}
use Rattle.steps.proofs.TallyLaws.{plans_done, plans_refused, plans_none, no_plans, tally_append}
use Rattle.steps.specs.Summary.{summary_fits, fresh_summary, counted_at, page_counted, word_counted, store_counted, add_store, checks_with, begins_with, run_with, plans_with, outside_with, summary_with}
use Rattle.steps.proofs.SummaryLaws.{counted_sized, plan_sized, summary_sized, refused_checks, unfit_checks, fit_checks, unfit_refused, refused_run, refused_plans, refused_outside, refused_summary, begun_run, begun_plans, begun_summary}
use Rattle.laws.specs.Laws.{continued, with_further, lying_in, addresses_written, page_first, page_last, written_into, stored_into, leaving_ov, LentRun, summary_after, history_of, rows_of_run_with, plans_of_steps, is_among, step_numbers, PlanOfAStep, RunWithIs, MovesCounted, SummaryAdds, SummariesAdd, SummaryIsHistory, SummarySplit, SummaryContinued}
use Rattle.laws.proofs.Steps.{first_given_lem, first_from, answers_of_checks}
use Rattle.laws.proofs.Runs.{run_none, run_of_none, by_first, unchecked, runs_add, answers_of_a_run}
use Rattle.laws.proofs.Counts.{stores_by_address}
use Rattle.laws.proofs.Histories.{over_steps_done, tallies_add, tally_continued}

-- ---- with a summary of 64 numbers, and with another

module _ (s : List ℕ) (g : Given) (budget : ℕ) (w : World) where
  module _ (fits : summary_fits s ≡ true) where
    begins : begins_with s g w ≡ is_done (checks_of g w.«data» (length w.output) w.m)
    begins = ap is_done (fit_checks s g w.«data» (length w.output) w.m fits)

    run_fit : run_with s g budget w ≡ run_of g budget w
    run_fit = by (is_done (checks_of g w.«data» (length w.output) w.m)) refl
      where
        by : (t : Bool) → is_done (checks_of g w.«data» (length w.output) w.m) ≡ t → run_with s g budget w ≡ run_of g budget w
        by true e = begun_run s g budget w (begins ∙ e)
        by false e =
            refused_run s g budget w (begins ∙ e)
            ∙ rw (fit_checks s g w.«data» (length w.output) w.m fits)
            (sym (unchecked g budget w (ap (λ (r : RunOutcome). is_done r.answer) (run_none g w) ∙ e) ∙ run_none g w))

    plans_fit : plans_with s g budget w ≡ plans_of g budget w
    plans_fit = by (is_done (checks_of g w.«data» (length w.output) w.m)) refl
      where
        by : (t : Bool) → is_done (checks_of g w.«data» (length w.output) w.m) ≡ t → plans_with s g budget w ≡ plans_of g budget w
        by true e = begun_plans s g budget w (begins ∙ e)
        by false e = refused_plans s g budget w (begins ∙ e) ∙ sym (no_plans g budget w e)

    summary_fit : summary_with s g budget w ≡ tallied add_store (plans_of g budget w) s
    unfolding summary_with
    summary_fit = ap (λ (plans : List Plan). tallied add_store plans s) plans_fit

    outside_fit : outside_with s g budget w ≡ outside_of g budget w
    unfolding outside_with outside_of
    outside_fit = ap (λ (plans : List Plan). tallied add_outside plans none_outside) plans_fit

  unfit_begins : summary_fits s ≡ false → begins_with s g w ≡ false
  unfit_begins u = unfit_refused s g w.«data» (length w.output) w.m u

  pub same_size : length (summary_with s g budget w) ≡ length s
  unfolding summary_with
  same_size = summary_sized (plans_with s g budget w) s

  still_fits : summary_fits (summary_with s g budget w) ≡ summary_fits s
  unfolding summary_fits
  still_fits = ap (λ (n : ℕ). eqb n 64) same_size

by_fit : {P : Type 0} (s : List ℕ) → (summary_fits s ≡ true → P) → (summary_fits s ≡ false → P) → P
by_fit {P} s y n = go (summary_fits s) refl
  where
    go : (t : Bool) → summary_fits s ≡ t → P
    go true e = y e
    go false e = n e

-- ---- 14

module _ (s : List ℕ) (g : Given) (budget : ℕ) (w : World) where
  -- a run of no steps leaves the world and the summary that it got
  pub no_steps_with : (run_with s g budget w).steps ≡ 0 → ((run_with s g budget w).world ≡ w) × (summary_with s g budget w ≡ s)
  unfolding tallied plans_of_steps
  no_steps_with none = by (begins_with s g w) refl
    where
      by : (t : Bool) → begins_with s g w ≡ t → ((run_with s g budget w).world ≡ w) × (summary_with s g budget w ≡ s)
      by true b =
          let run = begun_run s g budget w b in
          let steps : (run_of g budget w).steps ≡ 0 = ap (λ (r : RunOutcome). r.steps) (sym run) ∙ none in
          (rw run (run_of_none g budget w steps), begun_summary s g budget w b ∙ rw (over_steps_done g budget w, steps) refl)
      by false b = (ap (λ (r : RunOutcome). r.world) (refused_run s g budget w b), refused_summary s g budget w b)

  -- no run without a summary is answered by 14
  not_unfit : (run_of g budget w).answer ≡ SummaryUnfit → ⊥
  unfolding is_among step_numbers
  not_unfit e = false≢true (rw e at (answers_of_a_run g budget w))

  unfit_answer : (run_with s g budget w).answer ≡ SummaryUnfit → checks_with s g w.«data» (length w.output) w.m ≡ SummaryUnfit
  unfit_answer e = by (begins_with s g w) refl
    where
      by : (t : Bool) → begins_with s g w ≡ t → checks_with s g w.«data» (length w.output) w.m ≡ SummaryUnfit
      by true b = absurd (not_unfit (ap (λ (r : RunOutcome). r.answer) (sym (begun_run s g budget w b)) ∙ e))
      by false b = ap (λ (r : RunOutcome). r.answer) (sym (refused_run s g budget w b)) ∙ e

  -- a run with a summary has one number more
  also : (a : Answer) → is_among (number_of a) step_numbers ≡ true → is_among (number_of a) (14 ∷ step_numbers) ≡ true
  unfolding is_among
  also a h = by (eqb (number_of a) 14)
    where
      by : (t : Bool) → cond t true (is_among (number_of a) step_numbers) ≡ true
      by true = refl
      by false = h

  unfit_number : summary_fits s ≡ false → (t : Bool) → is_done (checks_of g w.«data» (length w.output) w.m) ≡ t
      → is_among (number_of (checks_with s g w.«data» (length w.output) w.m)) (14 ∷ step_numbers) ≡ true
  unfolding is_among
  unfit_number u true e = rw (unfit_checks s g w.«data» (length w.output) w.m e u) refl
  unfit_number u false e =
      subst (λ (a : Answer). is_among (number_of a) (14 ∷ step_numbers) ≡ true) (sym (refused_checks s g w.«data» (length w.output) w.m e)) (also (checks_of g w.«data» (length w.output) w.m) (answers_of_checks g w.«data» (length w.output) w.m))

  run_numbers : is_among (number_of (run_with s g budget w).answer) (14 ∷ step_numbers) ≡ true
  run_numbers = by_fit s
      (λ f. rw (run_fit s g budget w f) (also (run_of g budget w).answer (answers_of_a_run g budget w)))
      (λ u. rw (refused_run s g budget w (unfit_begins s g budget w u)) (unfit_number u (is_done (checks_of g w.«data» (length w.output) w.m)) refl))

  pub run_with_is : RunWithIs s g budget w
  unfolding checks_with summary_fits
  run_with_is = record {
    given_by = λ a h b.
        let e : checks_with s g w.«data» (length w.output) w.m ≡ a = first_given_lem (rows_of_run_with s g w) a b in
        let refused : begins_with s g w ≡ false = ap is_done e ∙ h in
        (refused_run s g budget w refused ∙ rw e, rw (refused_outside s g budget w refused, refused_summary s g budget w refused) refl);
    unfit_only = λ e. first_from (rows_of_run_with s g w) SummaryUnfit refl (unfit_answer e);
    of_64 = λ l. let fits = eq-eqb _ _ l in (run_fit s g budget w fits, (plans_fit s g budget w fits, outside_fit s g budget w fits));
    answers = run_numbers;
  }

-- ---- a split run, and a continued one

module _ (s : List ℕ) (g : Given) (a b : ℕ) (w : World) where
  -- the second run goes on with the summary that the first left
  second_run : summary_fits s ≡ true → run_with (summary_with s g a w) g b (run_with s g a w).world ≡ run_of g b (run_of g a w).world
  second_run f = run_fit (summary_with s g a w) g b (run_with s g a w).world (still_fits s g a w ∙ f) ∙ rw (run_fit s g a w f) refl

  second_summary : summary_fits s ≡ true → summary_with (summary_with s g a w) g b (run_with s g a w).world
      ≡ tallied add_store (plans_of g b (run_of g a w).world) (tallied add_store (plans_of g a w) s)
  second_summary f =
      summary_fit (summary_with s g a w) g b (run_with s g a w).world (still_fits s g a w ∙ f) ∙ rw (run_fit s g a w f, summary_fit s g a w f) refl

  split_fit : summary_fits s ≡ true → SummarySplit s g a b w
  split_fit f =
      let run = run_fit s g a w f in
      let whole = run_fit s g (a + b) w f in
      let summary = summary_fit s g (a + b) w f in
      let runs = runs_add g a b w in
      let tallies = tallies_add add_store g a b w s in
      record {
        first_done = λ d.
            let h = ap (λ (r : RunOutcome). is_done r.answer) (sym run) ∙ d in
            (whole ∙ runs.first_done h ∙ ap (continued a) (sym (second_run f)), summary ∙ tallies.first_done h ∙ sym (second_summary f));
        first_refused = λ d.
            let h = ap (λ (r : RunOutcome). is_done r.answer) (sym run) ∙ d in
            (whole ∙ runs.first_refused h ∙ sym run, summary ∙ tallies.first_refused h ∙ sym (summary_fit s g a w f));
      }

  split_unfit : summary_fits s ≡ false → SummarySplit s g a b w
  split_unfit u =
      let refused = unfit_begins s g a w u in
      let answer = ap (λ (r : RunOutcome). is_done r.answer) (refused_run s g a w refused) ∙ refused in
      record {
        first_done = λ d. absurd (false≢true (sym answer ∙ d));
        first_refused = λ d. (
          refused_run s g (a + b) w refused ∙ sym (refused_run s g a w refused),
          refused_summary s g (a + b) w refused ∙ sym (refused_summary s g a w refused),
        );
      }

  pub summary_split : SummarySplit s g a b w
  summary_split = by_fit s split_fit split_unfit

pub summary_continued : SummaryContinued
summary_continued s g further budget w l = by_fit s
    (λ f.
    let more = with_further g further in
    let rest = budget - (run_of g budget w).steps in
    let after = still_fits s g budget w ∙ f in
    summary_fit s more budget w f ∙ tally_continued add_store g further budget w s l
    ∙ rw (run_fit s g budget w f, summary_fit (summary_with s g budget w) more rest (run_of g budget w).world after, summary_fit s g budget w f))
    (λ u.
    let once = unfit_begins s (with_further g further) budget w u in
    let first = refused_summary s g budget w (unfit_begins s g budget w u) in
    refused_summary s (with_further g further) budget w once
    ∙ rw first
    (sym (refused_summary s (with_further g further) (budget - (run_with s g budget w).steps) (run_with s g budget w).world
    (unfit_begins s (with_further g further) budget (run_with s g budget w).world u))))

-- ---- a number of the summary, by its history

-- a plan's store lies in the data slice
abbrev InSlice : Write → Type 0
InSlice Write.Nothing = Unit {0}
InSlice (Write.Data address word) = address < 4096
InSlice (Write.Sent at word) = Unit {0}

in_slice : (write : Write) (size : ℕ) → WriteFits write size → InSlice write
in_slice Write.Nothing size f = tt
in_slice (Write.Data address word) size f = f.1
in_slice (Write.Sent at word) size f = tt

abbrev AllIn : List Plan → Type 0
AllIn [] = Unit {0}
AllIn (p ∷ plans) = InSlice p.write × AllIn plans

module _ (g : Given) where
  plan_in_lem : (w : World) → InSlice (plan_in g w).write
  plan_in_lem w = in_slice (plan_in g w).write (length w.«data») (step_fits g w.«data» (length w.output) w.m)

  plans_in : (n : ℕ) (w : World) → AllIn (plans_of g n w)
  plans_in zero w = rw (plans_none g w) tt
  plans_in (suc n) w = by_first g w
      (λ d. rw (plans_done g n w d) (plan_in_lem w, plans_in n (step_of g w).world))
      (λ r. rw (plans_refused g n w r) tt)

  all_in : (write : Write) → InSlice write → lying_in 0 4095 (addresses_written write) ≡ length (addresses_written write)
  unfolding lying_in addresses_written
  all_in Write.Nothing f = refl
  all_in (Write.Data address word) f =
      let below : address ≤ 4095 = omega arith in
      rw (le-leb 0 address (omega arith), le-leb address 4095 below) refl
  all_in (Write.Sent at word) f = refl

  pub plan_of_a_step : (w : World) → PlanOfAStep g w
  unfolding step_of after_store
  plan_of_a_step w = record { machine_after = refl; data_after = refl; in_the_slice = all_in (plan_in g w).write (plan_in_lem w) }

-- the numbers at a place, where each step adds something to it
module _ (place : ℕ) (added : Plan → ℕ) (total : List Plan → ℕ) (none : total [] ≡ 0) (more : (p : Plan) (plans : List Plan) → total (p ∷ plans) ≡ added p + total plans)
    (one : (p : Plan) (s : List ℕ) → InSlice p.write → length s ≡ 64 → get_or s place 0 ≤ 65535 → get_or (add_store p s) place 0 ≡ min 65535 (get_or s place 0 + added p)) where
  at_place : (plans : List Plan) (s : List ℕ) → AllIn plans → length s ≡ 64 → get_or s place 0 ≤ 65535
      → get_or (tallied add_store plans s) place 0 ≡ min 65535 (get_or s place 0 + total plans)
  unfolding tallied
  at_place [] s i l b = omega (arith, none)
  at_place (p ∷ plans) s i l b =
      let e = one p s i.0 l b in
      at_place plans (add_store p s) i.1 (plan_sized p s ∙ l) (omega (arith, e))
      ∙ omega (arith, e, more p plans)

-- one more at a place, as it shows at another or the same
counted_at_lem : (s : List ℕ) (i j : ℕ) → length s ≡ 64 → i < 64 → get_or s j 0 ≤ 65535 → get_or (counted_at i s) j 0 ≡ min 65535 (get_or s j 0 + cond (eqb i j) 1 0)
unfolding counted_at
counted_at_lem s i j l h b = by (eqb i j) refl
  where
    by : (t : Bool) → eqb i j ≡ t → get_or (counted_at i s) j 0 ≡ min 65535 (get_or s j 0 + cond (eqb i j) 1 0)
    by true e = rw (← eqb-true i j e) (get_or-set_same s i _ 0 (omega (arith, l)) ∙ rw (eq-eqb i i refl) refl)
    by false e = get_or-set_other s i j _ 0 (λ q. eqb-false i j e (sym q)) ∙ rw e (omega (arith, b))

not_counted : (s : List ℕ) (i j : ℕ) → (j ≡ i → ⊥) → get_or (counted_at i s) j 0 ≡ get_or s j 0
unfolding counted_at
not_counted s i j n = get_or-set_other s i j _ 0 n

module _ (s : List ℕ) (l : length s ≡ 64) (q page : ℕ) (low : q < 32) (below : page < 32) where
  first_half : (ov : ℕ) → get_or s page 0 ≤ 65535 → get_or (page_counted q ov s) page 0 ≡ min 65535 (get_or s page 0 + cond (eqb q page) 1 0)
  unfolding page_counted
  first_half ov b = by (eqb ov 1)
    where
      by : (t : Bool) → get_or (cond t (counted_at (32 + q) (counted_at q s)) (counted_at q s)) page 0 ≡ min 65535 (get_or s page 0 + cond (eqb q page) 1 0)
      by true = not_counted (counted_at q s) (32 + q) page (λ e. omega (arith, e)) ∙ counted_at_lem s q page l (omega arith) b
      by false = counted_at_lem s q page l (omega arith) b

  same_place : eqb (32 + q) (32 + page) ≡ eqb q page
  same_place = by (eqb q page) refl
    where
      by : (t : Bool) → eqb q page ≡ t → eqb (32 + q) (32 + page) ≡ eqb q page
      by true e = rw e (eq-eqb _ _ (ap (λ (n : ℕ). 32 + n) (eqb-true q page e)))
      by false e = rw e (ne_eqb (32 + q) (32 + page) (λ f. eqb-false q page e (omega (arith, f))))

  second_half : (ov : ℕ) → get_or s (32 + page) 0 ≤ 65535
      → get_or (page_counted q ov s) (32 + page) 0 ≡ min 65535 (get_or s (32 + page) 0 + cond (eqb ov 1) (cond (eqb q page) 1 0) 0)
  unfolding page_counted
  second_half ov b = by (eqb ov 1)
    where
      apart : get_or (counted_at q s) (32 + page) 0 ≡ get_or s (32 + page) 0
      apart = not_counted s q (32 + page) (λ e. omega (arith, e))

      by : (t : Bool) → get_or (cond t (counted_at (32 + q) (counted_at q s)) (counted_at q s)) (32 + page) 0 ≡ min 65535 (get_or s (32 + page) 0 + cond t (cond (eqb q page) 1 0) 0)
      by true = counted_at_lem (counted_at q s) (32 + q) (32 + page) (counted_sized q s ∙ l) (omega arith) (rw apart b) ∙ rw (apart, same_place)
      by false = apart ∙ omega (arith, b)

-- a page is its 128 addresses
module _ (first last address : ℕ) where
  inside : first ≤ address → address ≤ last → within first last address ≡ true
  inside low high = rw (le-leb _ _ low, le-leb _ _ high) refl

  outside : (within first last address ≡ true → ⊥) → within first last address ≡ false
  outside never = by (within first last address) refl
    where
      by : (t : Bool) → within first last address ≡ t → t ≡ false
      by true h = absurd (never h)
      by false h = refl

  below : address < first → within first last address ≡ false
  below l = outside (λ h. omega (arith, (bounds first last address h).0))

  above : last < address → within first last address ≡ false
  above l = outside (λ h. omega (arith, (bounds first last address h).1))

in_page : (page address word : ℕ) → written_into page (Write.Data address word) ≡ cond (eqb (address / 128) page) 1 0
unfolding written_into lying_in addresses_written
in_page page address word = by (ltb (address / 128) page) (ltb page (address / 128)) refl refl
  where
    counted : {t u : Bool} → t ≡ u → eqb (address / 128) page ≡ u → ◌≡◌ {A = ℕ} (cond t 1 0 + 0) (cond (eqb (address / 128) page) 1 0)
    counted e f = omega (arith, ap {B = ℕ} (λ (x : Bool). cond x 1 0) (e ∙ sym f))

    neither : ltb (address / 128) page ≡ false → ltb page (address / 128) ≡ false → address / 128 ≡ page
    neither e f = omega (arith, ltb-false (address / 128) page e, ltb-false page (address / 128) f)

    by : (less more : Bool) → ltb (address / 128) page ≡ less → ltb page (address / 128) ≡ more
        → written_into page (Write.Data address word) ≡ cond (eqb (address / 128) page) 1 0
    by true more e f = let l = ltb-true (address / 128) page e in counted (below (page_first page) (page_last page) address (omega (arith, l))) (ne_eqb (address / 128) page (λ q. omega (arith, q, l)))
    by false true e f = let l = ltb-true page (address / 128) f in counted (above (page_first page) (page_last page) address (omega (arith, l))) (ne_eqb (address / 128) page (λ q. omega (arith, q, l)))
    by false false e f = let q = neither e f in counted (inside (page_first page) (page_last page) address (omega (arith, q)) (omega (arith, q))) (eq-eqb _ _ q)

counted_word : (address ov : ℕ) (s : List ℕ) → address < 4096 → length s ≡ 64 → word_counted address ov s ≡ page_counted (address / 128) ov s
unfolding word_counted summary_fits
counted_word address ov s h l = rw (eq-eqb _ _ l, lt-ltb _ _ h) refl

module _ (page : ℕ) (below : page < 32) where
  -- what a step adds to the two numbers of the page
  abbrev stored_by : Plan → ℕ
  stored_by p = written_into page p.write

  abbrev clipped_by : Plan → ℕ
  clipped_by p = cond (eqb p.m.ov 1) (stored_by p) 0

  none_clipped : (t : Bool) → ◌≡◌ {A = ℕ} 0 (cond t 0 0)
  none_clipped true = refl
  none_clipped false = refl

  module _ (s : List ℕ) (l : length s ≡ 64) (ov : ℕ) where
    one_stored : (write : Write) → InSlice write → get_or s page 0 ≤ 65535
        → get_or (store_counted write ov s) page 0 ≡ min 65535 (get_or s page 0 + written_into page write)
    unfolding store_counted written_into lying_in addresses_written
    one_stored Write.Nothing i b = omega (arith, b)
    one_stored (Write.Data address word) i b =
        rw (counted_word address ov s i l)
        (first_half s l (address / 128) page (omega arith) below ov b ∙ ap (λ (n : ℕ). min 65535 (get_or s page 0 + n)) (sym (in_page page address word)))
    one_stored (Write.Sent at word) i b = omega (arith, b)

    one_clipped : (write : Write) → InSlice write → get_or s (32 + page) 0 ≤ 65535
        → get_or (store_counted write ov s) (32 + page) 0
        ≡ min 65535 (get_or s (32 + page) 0 + cond (eqb ov 1) (written_into page write) 0)
    unfolding store_counted written_into lying_in addresses_written
    one_clipped Write.Nothing i b = rw (← none_clipped (eqb ov 1)) (omega (arith, b))
    one_clipped (Write.Data address word) i b =
        rw (counted_word address ov s i l)
        (second_half s l (address / 128) page (omega arith) below ov b
        ∙ ap (λ (n : ℕ). min 65535 (get_or s (32 + page) 0 + cond (eqb ov 1) n 0)) (sym (in_page page address word)))
    one_clipped (Write.Sent at word) i b = rw (← none_clipped (eqb ov 1)) (omega (arith, b))

  clipped_more : (p : Plan) (plans : List Plan) → stored_into page (leaving_ov (p ∷ plans)) ≡ clipped_by p + stored_into page (leaving_ov plans)
  unfolding stored_into leaving_ov
  clipped_more p plans = by (eqb p.m.ov 1)
    where
      by : (t : Bool) → stored_into page (cond t (p ∷ leaving_ov plans) (leaving_ov plans)) ≡ cond t (stored_by p) 0 + stored_into page (leaving_ov plans)
      by true = refl
      by false = omega arith

  module _ (s : List ℕ) (l : length s ≡ 64) (plans : List Plan) (i : AllIn plans) where
    stores_at : get_or s page 0 ≤ 65535 → get_or (tallied add_store plans s) page 0 ≡ min 65535 (get_or s page 0 + stored_into page plans)
    unfolding stored_into add_store
    stores_at b = at_place page stored_by (stored_into page) refl (λ p rest. refl) (λ p s i l b. one_stored s l p.m.ov p.write i b) plans s i l b

    clipped_at : get_or s (32 + page) 0 ≤ 65535 → get_or (tallied add_store plans s) (32 + page) 0 ≡ min 65535 (get_or s (32 + page) 0 + stored_into page (leaving_ov plans))
    unfolding stored_into leaving_ov add_store
    clipped_at b =
        at_place (32 + page) clipped_by (λ (rest : List Plan). stored_into page (leaving_ov rest)) refl clipped_more (λ p s i l b. one_clipped s l p.m.ov p.write i b)
        plans s i l b

-- ---- the whole summary

nothing_added : (n : ℕ) → n ≤ 65535 → n ≡ min 65535 (n + 0)
nothing_added n b = omega (arith, b)

module _ (s : List ℕ) (g : Given) (budget : ℕ) (w : World) (b : (place : ℕ) → get_or s place 0 ≤ 65535) where
  adds_fit : summary_fits s ≡ true → SummaryAdds s g budget w
  unfolding summary_fits
  adds_fit f =
      let l = eqb-true _ _ f in
      let i = plans_in g budget w in
      record {
        stores = λ page below. rw (summary_fit s g budget w f, plans_fit s g budget w f) (stores_at page below s l (plans_of g budget w) i (b page));
        clipped = λ page below. rw (summary_fit s g budget w f, plans_fit s g budget w f) (clipped_at page below s l (plans_of g budget w) i (b (32 + page)));
        same_size = same_size s g budget w;
      }

  adds_unfit : summary_fits s ≡ false → SummaryAdds s g budget w
  unfolding stored_into leaving_ov
  adds_unfit u =
      let refused = unfit_begins s g budget w u in
      record {
        stores = λ page below. rw (refused_summary s g budget w refused, refused_plans s g budget w refused) (nothing_added (get_or s page 0) (b page));
        clipped = λ page below. rw (refused_summary s g budget w refused, refused_plans s g budget w refused) (nothing_added (get_or s (32 + page) 0) (b (32 + page)));
        same_size = same_size s g budget w;
      }

pub summaries_add : SummariesAdd
summaries_add s g budget w b = by_fit s (adds_fit s g budget w b) (adds_unfit s g budget w b)

-- ---- the runs since the last reset

-- a history of runs, each of whose stores lies in the data slice
both_in : (a b : List Plan) → AllIn a → AllIn b → AllIn (a ++ b)
both_in [] b i j = j
both_in (p ∷ a) b i j = (i.0, both_in a b i.1 j)

history_in : (runs : List LentRun) → AllIn (history_of runs)
unfolding history_of
history_in [] = tt
history_in (r ∷ runs) = both_in (plans_of r.given r.budget r.world) (history_of runs) (plans_in r.given r.budget r.world) (history_in runs)

over_runs : (runs : List LentRun) (s : List ℕ) → summary_fits s ≡ true → summary_after runs s ≡ tallied add_store (history_of runs) s
unfolding summary_after history_of tallied
over_runs [] s f = refl
over_runs (r ∷ runs) s f =
    over_runs runs (summary_with s r.given r.budget r.world) (still_fits s r.given r.budget r.world ∙ f)
    ∙ rw (summary_fit s r.given r.budget r.world f)
    (sym (tally_append add_store (plans_of r.given r.budget r.world) (history_of runs) s))

fresh_zero : (place : ℕ) → get_or fresh_summary place 0 ≡ 0
fresh_zero place = zeros 64 place
  where
    zeros : (n i : ℕ) → get_or (replicate {A = ℕ} n 0) i 0 ≡ 0
    zeros zero i = refl
    zeros (suc n) zero = refl
    zeros (suc n) (suc i) = zeros n i

pub summary_is_history : (runs : List LentRun) → SummaryIsHistory runs
unfolding summary_fits
summary_is_history runs =
    let whole = over_runs runs fresh_summary refl in
    let i = history_in runs in
    record {
      stores = λ page below.
          rw whole
          (stores_at page below fresh_summary refl (history_of runs) i (omega (arith, fresh_zero page)) ∙ rw (fresh_zero page) (ap (min 65535) (omega arith)));
      clipped = λ page below.
          rw whole
          (clipped_at page below fresh_summary refl (history_of runs) i (omega (arith, fresh_zero (32 + page)))
          ∙ rw (fresh_zero (32 + page)) (ap (min 65535) (omega arith)));
      of_64 = rw whole (summary_sized (history_of runs) fresh_summary);
    }

-- ---- a data move

-- what a move leaves in a page, where it is made and where it is not
move_written : (page address word : ℕ) (t : Bool) → written_into page (cond t (Write.Data (address + 1) word) Write.Nothing) ≡ cond t (cond (eqb ((address + 1) / 128) page) 1 0) 0
unfolding written_into lying_in addresses_written
move_written page address word true = in_page page (address + 1) word
move_written page address word false = refl

pub moves_counted : MovesCounted
unfolding write_of performed
moves_counted g w i word page d e s =
    let address = address_of (traits_of i).operand w.m in
    let region = data_region w.m.cnf address in
    let store = ap (λ (x : Store). write_of x region w.m.cnf address w.m.output_cursor) s in
    ap (written_into page) (ap (λ (p : Plan). p.write) (step_plan g w i d e) ∙ stores_by_address g w i ∙ store)
    ∙ move_written page address word (move_allowed region w.m.cnf address)
