-- What is kept beside a run, and the totals of external reads and writes: proofs.
use Rattle.std.specs.Prelude.{◌≡◌, refl, true, false, List, [], ◌∷◌, ◌++◌, length}
use Rattle.std.proofs.Common.{sym, ◌∙◌, zero-add}
use Rattle.std.proofs.Math.Path.{ap}
use Rattle.std.proofs.lemmas.Bool.{false≢true}
use Prim.Native.Nat.{ℕ, zero, suc, ◌+◌, ◌-◌, ◌≤◌}
use native.Mathlib.Omega.{arith}
use Rattle.answers.specs.Numbers.{is_done}
use Rattle.answers.proofs.NumberLaws.{done_is}
use Rattle.board.specs.Given.{Given}
use Rattle.steps.specs.declared.Outside.{Outside}
use Rattle.steps.specs.Plan.{Plan}
use Rattle.steps.specs.OperandFound.{none_outside}
use Rattle.steps.specs.World.{World, RunOutcome}
use Rattle.steps.specs.Step.{step_of, run_of}
use Rattle.steps.specs.Tally.{plan_in, plans_of, tallied, both_outside, add_outside, outside_of}
use Rattle.steps.proofs.TallyLaws.{plans_done, plans_refused, plans_none, tally_append, few_outside}
use Rattle.laws.specs.Laws.{with_further, plans_of_steps, CountsOfARun, TalliesAdd, CountsAdd, TallyContinued, CountsContinued}
use Rattle.laws.proofs.Runs.{run_none, run_refused, run_done, by_first, runs_add}
use Rattle.laws.proofs.Continued.{step_further, world_same}

-- ---- a history by the steps that its run reports

module _ (g : Given) where
  pub over_steps_done : (n : ℕ) (w : World) → plans_of g n w ≡ plans_of_steps g (run_of g n w).steps w
  unfolding plans_of_steps
  over_steps_done zero w = rw (run_none g w) (plans_none g w)
  over_steps_done (suc n) w = by_first g w
      (λ d. rw (run_done g n w d) (plans_done g n w d ∙ ap (◌∷◌ (plan_in g w)) (over_steps_done n (step_of g w).world)))
      (λ r. rw (run_refused g n w r) (plans_refused g n w r))

  -- ---- a split run

  plans_split : (a b : ℕ) (w : World) → is_done (run_of g a w).answer ≡ true → plans_of g (a + b) w ≡ plans_of g a w ++ plans_of g b (run_of g a w).world
  plans_split zero b w h = rw (zero-add b, plans_none g w, run_none g w) refl
  plans_split (suc a) b w h =
      let one : suc a + b ≡ suc (a + b) = omega arith in
      rw one (by_first g w
      (λ d.
      let rest = plans_split a b (step_of g w).world (ap (λ (r : RunOutcome). is_done r.answer) (sym (run_done g a w d)) ∙ h) in
      rw (run_done g a w d, plans_done g a w d) (plans_done g (a + b) w d ∙ ap (◌∷◌ (plan_in g w)) rest))
      (λ r. absurd (false≢true (sym r ∙ ap (λ (o : RunOutcome). is_done o.answer) (sym (run_refused g a w r)) ∙ h))))

  -- the steps done are the same, and so is the history
  plans_refused_run : (a b : ℕ) (w : World) → is_done (run_of g a w).answer ≡ false → plans_of g (a + b) w ≡ plans_of g a w
  plans_refused_run a b w h =
      over_steps_done (a + b) w
      ∙ ap (λ (r : RunOutcome). plans_of_steps g r.steps w) ((runs_add g a b w).first_refused h)
      ∙ sym (over_steps_done a w)

pub tallies_add : {S : Type 0} (keep : Plan → S → S) (g : Given) (a b : ℕ) (w : World) (s : S) → TalliesAdd keep g a b w s
tallies_add keep g a b w s = record {
  first_done = λ h. ap (λ (plans : List Plan). tallied keep plans s) (plans_split g a b w h) ∙ tally_append keep (plans_of g a w) (plans_of g b (run_of g a w).world) s;
  first_refused = λ h. ap (λ (plans : List Plan). tallied keep plans s) (plans_refused_run g a b w h);
}

-- ---- the totals

abbrev outside_with : ℕ → ℕ → Outside
outside_with reads writes = record { reads = reads; writes = writes }

outside_is : {r s v w : ℕ} → r ≡ s → v ≡ w → outside_with r v ≡ outside_with s w
outside_is e f = rw (e, f)

-- counts from some on are those, and the counts from none on
tally_from : (plans : List Plan) (o : Outside) → tallied add_outside plans o ≡ both_outside o (tallied add_outside plans none_outside)
unfolding tallied add_outside
tally_from [] o = outside_is (omega arith) (omega arith)
tally_from (p ∷ plans) o =
    rw (tally_from plans (both_outside o p.outside), tally_from plans (both_outside none_outside p.outside)) (outside_is (omega arith) (omega arith))

pub counts_add : (g : Given) (a b : ℕ) (w : World) → CountsAdd g a b w
unfolding outside_of
counts_add g a b w =
    let both = tallies_add add_outside g a b w none_outside in
    record {
      first_done = λ h. both.first_done h ∙ tally_from (plans_of g b (run_of g a w).world) (tallied add_outside (plans_of g a w) none_outside);
      first_refused = λ h. both.first_refused h;
    }

module _ (g : Given) where
  -- every step adds at most one of each
  record AtMost (o before : Outside) (steps : ℕ) : Type 0 where
    reads : o.reads ≤ before.reads + steps
    writes : o.writes ≤ before.writes + steps

  total_most : (n : ℕ) (w : World) (o : Outside) → AtMost (tallied add_outside (plans_of g n w) o) o (run_of g n w).steps
  unfolding tallied add_outside
  total_most zero w o = rw (plans_none g w, run_none g w) (record { reads = omega arith; writes = omega arith })
  total_most (suc n) w o = by_first g w
      (λ d.
      let few = few_outside g w in
      let rest = total_most n (step_of g w).world (both_outside o (plan_in g w).outside) in
      rw (plans_done g n w d, run_done g n w d)
      (record { reads = omega (arith, few.one_read, rest.reads); writes = omega (arith, few.one_write, rest.writes) }))
      (λ r. rw (plans_refused g n w r, run_refused g n w r) (record { reads = omega arith; writes = omega arith }))

  pub counts_of_a_run : (budget : ℕ) (w : World) → CountsOfARun g budget w
  unfolding outside_of
  counts_of_a_run budget w =
      let most = total_most budget w none_outside in
      record {
        over_steps_done = over_steps_done g budget w;
        reads_within = omega (arith, most.reads);
        writes_within = omega (arith, most.writes);
      }

-- ---- a continued run

module _ (g : Given) (further : List ℕ) (l : length (g.input ++ further) ≤ 1024) where
  plans_continued : (budget : ℕ) (w : World) → plans_of (with_further g further) budget w
      ≡ plans_of g budget w ++ plans_of (with_further g further) (budget - (run_of g budget w).steps) (run_of g budget w).world
  plans_continued zero w = rw (plans_none g w, run_none g w) refl
  plans_continued (suc n) w = by_first g w
      (λ d.
      let s = step_further g further l w (done_is _ d) in
      let k = (run_of g n (step_of g w).world).steps in
      let same : suc n - suc k ≡ n - k = omega arith in
      rw (plans_done g n w d, run_done g n w d, same)
      (plans_done (with_further g further) n w (ap is_done s.answer_same)
      ∙ ap (λ (p : Plan). p ∷ plans_of (with_further g further) n (step_of (with_further g further) w).world) s.plan_same
      ∙ ap (λ (v : World). plan_in g w ∷ plans_of (with_further g further) n v) (world_same g further l w (done_is _ d))
      ∙ ap (◌∷◌ (plan_in g w)) (plans_continued n (step_of g w).world)))
      (λ r. let whole : suc n - 0 ≡ suc n = omega arith in rw (plans_refused g n w r, run_refused g n w r, whole) refl)

pub tally_continued : {S : Type 0} (keep : Plan → S → S) → TallyContinued S keep
tally_continued keep g further budget w s l =
    ap (λ (plans : List Plan). tallied keep plans s) (plans_continued g further l budget w) ∙ tally_append keep (plans_of g budget w) _ s

pub counts_continued : CountsContinued
unfolding outside_of
counts_continued g further budget w l =
    tally_continued add_outside g further budget w none_outside l
    ∙ tally_from (plans_of (with_further g further) (budget - (run_of g budget w).steps) (run_of g budget w).world) (tallied add_outside (plans_of g budget w) none_outside)
