-- Laws of summaries: how many numbers they have does not change, 14 comes after checks 1 and 2, and what a run with a summary is.
use Rattle.std.specs.Prelude.{◌≡◌, Bool, true, false, not, cond, ◌&&◌, List, [], ◌∷◌, ℕ, ◌+◌, ◌/◌, eqb, ltb, length}
use Rattle.std.proofs.Math.Path.{refl}
use Rattle.std.proofs.Common.{sym, ◌∙◌, ap, length-set}
use Rattle.machine.specs.declared.Machine.{Machine}
use Rattle.answers.specs.Answers.{Done, SummaryUnfit}
use Rattle.answers.specs.Numbers.{is_done}
use Rattle.answers.proofs.NumberLaws.{done_is}
use Rattle.board.specs.Given.{Given}
use Rattle.steps.specs.Plan.{Plan}
use Rattle.steps.specs.declared.Write.{Write}
use Rattle.steps.specs.declared.Write.TheVariants.{Nothing, Data, Sent}
use Rattle.steps.specs.Rows.{first_given}
use Rattle.steps.specs.OperandFound.{none_outside}
use Rattle.steps.specs.World.{World}
use Rattle.steps.specs.Step.{step_of, run_of}
use Rattle.steps.specs.Table.{check_rows, checks_of}
use Rattle.steps.proofs.RowLaws.{all_refuse, first_append}
use Rattle.steps.specs.Tally.{plan_in, plans_of, tallied, outside_of}
use Rattle.steps.proofs.TallyLaws.{refused_plan}
use Rattle.steps.specs.Summary.{summary_fits, counted_at, page_counted, word_counted, store_counted, add_store, summary_rows, rows_with, checks_with, begins_with, run_with, plans_with, outside_with, summary_with}

-- ---- sizes

pub counted_sized : (place : ℕ) (s : List ℕ) → length (counted_at place s) ≡ length s
unfolding counted_at
counted_sized place s = length-set s place _

page_sized : (page ov : ℕ) (s : List ℕ) → length (page_counted page ov s) ≡ length s
unfolding page_counted
page_sized page ov s = by (eqb ov 1)
  where
    by : (t : Bool) → length (cond t (counted_at (32 + page) (counted_at page s)) (counted_at page s)) ≡ length s
    by true = counted_sized (32 + page) (counted_at page s) ∙ counted_sized page s
    by false = counted_sized page s

word_sized : (address ov : ℕ) (s : List ℕ) → length (word_counted address ov s) ≡ length s
unfolding word_counted
word_sized address ov s = by (summary_fits s && ltb address 4096)
  where
    by : (t : Bool) → length (cond t (page_counted (address / 128) ov s) s) ≡ length s
    by true = page_sized (address / 128) ov s
    by false = refl

store_sized : (write : Write) (ov : ℕ) (s : List ℕ) → length (store_counted write ov s) ≡ length s
unfolding store_counted
store_sized Nothing ov s = refl
store_sized (Data address word) ov s = word_sized address ov s
store_sized (Sent at word) ov s = refl

-- whatever was done, a summary has as many numbers as before
pub plan_sized : (p : Plan) (s : List ℕ) → length (add_store p s) ≡ length s
unfolding add_store
plan_sized p s = store_sized p.write p.m.ov s

pub summary_sized : (plans : List Plan) (s : List ℕ) → length (tallied add_store plans s) ≡ length s
unfolding tallied
summary_sized [] s = refl
summary_sized (p ∷ plans) s = summary_sized plans (add_store p s) ∙ plan_sized p s

-- a refused step adds nothing
pub refused_adds : (g : Given) (w : World) (s : List ℕ) → is_done (step_of g w).answer ≡ false → add_store (plan_in g w) s ≡ s
unfolding add_store store_counted
refused_adds g w s r = ap (λ (p : Plan). add_store p s) (refused_plan g w r)

-- ---- 14 after 1 and 2

module _ (s : List ℕ) (g : Given) (d : List ℕ) (o : ℕ) (m : Machine) where
  pub by_checks : checks_with s g d o m ≡ cond (is_done (checks_of g d o m)) (cond (not (summary_fits s)) SummaryUnfit Done) (checks_of g d o m)
  unfolding checks_with rows_with summary_rows checks_of check_rows first_given
  by_checks = first_append (check_rows g d o m) (summary_rows s) (all_refuse (check_rows g d o m) refl)

  pub refused_checks : is_done (checks_of g d o m) ≡ false → checks_with s g d o m ≡ checks_of g d o m
  refused_checks e = by_checks ∙ simp e

  pub unfit_checks : is_done (checks_of g d o m) ≡ true → summary_fits s ≡ false → checks_with s g d o m ≡ SummaryUnfit
  unfit_checks e u = by_checks ∙ simp (e, u)

  pub done_checks : is_done (checks_of g d o m) ≡ true → summary_fits s ≡ true → checks_with s g d o m ≡ Done
  done_checks e f = by_checks ∙ simp (e, f)

  -- by checks 1 and 2
  either : {P : Type 0} → (is_done (checks_of g d o m) ≡ true → P) → (is_done (checks_of g d o m) ≡ false → P) → P
  either {P} y n = go (is_done (checks_of g d o m)) refl
    where
      go : (t : Bool) → is_done (checks_of g d o m) ≡ t → P
      go true e = y e
      go false e = n e

  pub fit_checks : summary_fits s ≡ true → checks_with s g d o m ≡ checks_of g d o m
  fit_checks f = either (λ e. done_checks e f ∙ sym (done_is _ e)) refused_checks

  pub unfit_refused : summary_fits s ≡ false → is_done (checks_with s g d o m) ≡ false
  unfit_refused u = either (λ e. ap is_done (unfit_checks e u)) (λ e. ap is_done (refused_checks e) ∙ e)

-- ---- a run that is refused before its first step, and one that begins

module _ (s : List ℕ) (g : Given) (budget : ℕ) (w : World) where
  module _ (h : begins_with s g w ≡ false) where
    pub refused_run : run_with s g budget w ≡ record { world = w; steps = 0; answer = checks_with s g w.«data» (length w.output) w.m }
    unfolding run_with
    refused_run = simp h

    pub refused_plans : plans_with s g budget w ≡ []
    unfolding plans_with
    refused_plans = simp h

    pub refused_outside : outside_with s g budget w ≡ none_outside
    unfolding outside_with tallied
    refused_outside = rw refused_plans refl

    pub refused_summary : summary_with s g budget w ≡ s
    unfolding summary_with tallied
    refused_summary = rw refused_plans refl

  module _ (h : begins_with s g w ≡ true) where
    pub begun_run : run_with s g budget w ≡ run_of g budget w
    unfolding run_with
    begun_run = simp h

    pub begun_plans : plans_with s g budget w ≡ plans_of g budget w
    unfolding plans_with
    begun_plans = simp h

    pub begun_outside : outside_with s g budget w ≡ outside_of g budget w
    unfolding outside_with outside_of
    begun_outside = rw begun_plans refl

    pub begun_summary : summary_with s g budget w ≡ tallied add_store (plans_of g budget w) s
    unfolding summary_with
    begun_summary = rw begun_plans refl
