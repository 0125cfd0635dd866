-- Runs: proofs.
use Rattle.std.specs.Prelude.{◌≡◌, Bool, length}
use Rattle.std.proofs.Math.Path.{refl, ap}
use Rattle.std.proofs.Common.{sym, ◌∙◌, zero-add, arith}
use Rattle.std.proofs.Math.Bool.{true, false}
use Rattle.std.proofs.lemmas.Bool.{false≢true}
use Prim.Native.Nat.{ℕ, zero, suc, ◌+◌, ◌≤◌, ◌<◌}
use Rattle.answers.specs.Numbers.{number_of, is_done}
use Rattle.steps.specs.World.{World, RunOutcome}
use Rattle.steps.specs.Table.{checks_of}
use Rattle.steps.specs.Step.{step_of, one_more, run_of, world_after}
use Rattle.steps.proofs.TableLaws.{checks_refuse}
use Rattle.laws.specs.Laws.{AnswersOfARun, AllDone, RunIs, continued, RunsAdd, is_among, step_numbers}
use Rattle.laws.proofs.Steps.{refused_unchanged, answers_of_a_step, answers_of_checks}
use Rattle.board.specs.Given.{Given}

module _ (g : Given) where
  pub run_none : (w : World) → run_of g 0 w ≡ record { world = w; steps = 0; answer = checks_of g w.«data» (length w.output) w.m }
  unfolding run_of
  run_none w = refl

  pub run_refused : (n : ℕ) (w : World) → is_done (step_of g w).answer ≡ false
      → run_of g (suc n) w ≡ record { world = w; steps = 0; answer = (step_of g w).answer }
  unfolding run_of
  run_refused n w h = rw (h, refused_unchanged g w h)

  pub run_done : (n : ℕ) (w : World) → is_done (step_of g w).answer ≡ true → run_of g (suc n) w ≡ one_more (run_of g n (step_of g w).world)
  unfolding run_of
  run_done n w h = rw h

  -- a run of no steps leaves the world that it got
  pub run_of_none : (n : ℕ) (w : World) → (run_of g n w).steps ≡ 0 → (run_of g n w).world ≡ w
  unfolding run_of
  run_of_none zero w h = refl
  run_of_none (suc n) w h = by (is_done (step_of g w).answer) refl
    where
      by : (t : Bool) → is_done (step_of g w).answer ≡ t → (run_of g (suc n) w).world ≡ w
      by true e = absurd (omega (arith, simp e at h))
      by false e = simp e (refused_unchanged g w e)

  -- by the first step of a run
  pub by_first : {P : Type 0} (w : World) → (is_done (step_of g w).answer ≡ true → P) → (is_done (step_of g w).answer ≡ false → P) → P
  by_first {P} w y n = go (is_done (step_of g w).answer) refl
    where
      go : (t : Bool) → is_done (step_of g w).answer ≡ t → P
      go true e = y e
      go false e = n e

  run_numbers : (n : ℕ) (w : World) → is_among (number_of (run_of g n w).answer) step_numbers ≡ true
  run_numbers zero w = rw (run_none w) (answers_of_checks g w.«data» (length w.output) w.m)
  run_numbers (suc n) w =
      by_first w
      (λ h. rw (run_done n w h) (run_numbers n (step_of g w).world))
      (λ h. rw (run_refused n w h) (answers_of_a_step g w))

pub answers_of_a_run : AnswersOfARun
answers_of_a_run g budget w = run_numbers g budget w

-- ---- a run that is refused after k steps, and one that is not

module _ (g : Given) where
  refused_after : (budget k : ℕ) (w : World) → k < budget → AllDone g k w → is_done (step_of g (world_after g k w)).answer ≡ false
      → run_of g budget w ≡ record { world = world_after g k w; steps = k; answer = (step_of g (world_after g k w)).answer }
  unfolding world_after AllDone
  refused_after zero k w l d h = absurd (omega arith)
  refused_after (suc n) zero w l d h = run_refused g n w h
  refused_after (suc n) (suc k) w l d h =
      run_done g n w d.0 ∙ ap one_more (refused_after n k (step_of g w).world (omega arith) d.1 h)

  all_done : (n : ℕ) (w : World) → AllDone g n w
      → run_of g n w
      ≡ record {
        world = world_after g n w;
        steps = n;
        answer = checks_of g (world_after g n w).«data» (length (world_after g n w).output) (world_after g n w).m;
      }
  unfolding world_after AllDone
  all_done zero w d = run_none g w
  all_done (suc n) w d = run_done g n w d.0 ∙ ap one_more (all_done n (step_of g w).world d.1)

  pub run_is : (budget : ℕ) (w : World) → RunIs g budget w
  run_is budget w = record { refused_after = λ k l d h. refused_after budget k w l d h; all_done = λ d. all_done budget w d }

-- ---- runs add

counted : RunOutcome → ℕ → RunOutcome
counted r n = record { world = r.world; steps = n; answer = r.answer }

pub none_before : (r : RunOutcome) → r ≡ continued 0 r
unfolding counted
none_before r = ap (counted r) (omega arith)

pub one_before : (a : ℕ) (r : RunOutcome) → one_more (continued a r) ≡ continued (suc a) r
unfolding counted
one_before a r = ap (counted r) (omega arith)

suc_add : (a b : ℕ) → suc a + b ≡ suc (a + b)
suc_add a b = omega arith

module _ (g : Given) where
  -- a run from a world that check 1 or 2 refuses
  pub unchecked : (b : ℕ) (w : World) → is_done (run_of g 0 w).answer ≡ false → run_of g b w ≡ run_of g 0 w
  unchecked zero w h = refl
  unchecked (suc n) w h =
      let c : is_done (checks_of g w.«data» (length w.output) w.m) ≡ false = rw run_none at h in
      let e = checks_refuse g w c in
      run_refused g n w (ap is_done e ∙ c) ∙ rw (e, run_none g w)

  module _ (b : ℕ) where
    add_done : (a : ℕ) (w : World) → is_done (run_of g a w).answer ≡ true
        → run_of g (a + b) w ≡ continued a (run_of g b (run_of g a w).world)
    add_done zero w h = rw (zero-add b, run_none g w) (none_before (run_of g b w))
    add_done (suc a) w h = rw (suc_add a b) (by_first g w
        (λ d.
        let i = add_done a (step_of g w).world (ap (λ (r : RunOutcome). is_done r.answer) (sym (run_done g a w d)) ∙ h) in
        run_done g (a + b) w d ∙ ap one_more i ∙ rw (run_done g a w d) (one_before a _))
        (λ r. absurd (false≢true (sym r ∙ ap (λ (o : RunOutcome). is_done o.answer) (sym (run_refused g a w r)) ∙ h))))

    add_refused : (a : ℕ) (w : World) → is_done (run_of g a w).answer ≡ false → run_of g (a + b) w ≡ run_of g a w
    add_refused zero w h = rw (zero-add b) (unchecked b w h)
    add_refused (suc a) w h = rw (suc_add a b) (by_first g w
        (λ d.
        run_done g (a + b) w d
        ∙ ap one_more (add_refused a (step_of g w).world (ap (λ (r : RunOutcome). is_done r.answer) (sym (run_done g a w d)) ∙ h))
        ∙ sym (run_done g a w d))
        (λ r. run_refused g (a + b) w r ∙ sym (run_refused g a w r)))

pub runs_add : (g : Given) (a b : ℕ) (w : World) → RunsAdd g a b w
runs_add g a b w = record { first_done = λ h. add_done g b a w h; first_refused = λ h. add_refused g b a w h }

-- ---- a run that is not refused, step by step

module _ (g : Given) where
  pub run_ended : (w : World) → (run_of g 0 w).world ≡ w
  run_ended w = ap (λ (r : RunOutcome). r.world) (run_none g w)

  pub record RunsOn (n : ℕ) (w : World) : Type 0 where
    pub step_done : is_done (step_of g w).answer ≡ true
    pub rest_done : is_done (run_of g n (step_of g w).world).answer ≡ true
    pub same_end : (run_of g (suc n) w).world ≡ (run_of g n (step_of g w).world).world

  pub runs_on : (n : ℕ) (w : World) → is_done (run_of g (suc n) w).answer ≡ true → RunsOn n w
  runs_on n w h =
      by_first g w
      (λ d. let e = run_done g n w d in
      record {
        step_done = d;
        rest_done = ap (λ (r : RunOutcome). is_done r.answer) (sym e) ∙ h;
        same_end = ap (λ (r : RunOutcome). r.world) e;
      })
      (λ r. absurd (false≢true (sym r ∙ ap (λ (o : RunOutcome). is_done o.answer) (sym (run_refused g n w r)) ∙ h)))

  -- the world that a run of n steps leaves, where a run as long or longer is not refused
  pub run_to : (n most : ℕ) (w : World) → n ≤ most → is_done (run_of g most w).answer ≡ true → (run_of g n w).world ≡ world_after g n w
  unfolding world_after
  run_to zero most w h done = run_ended w
  run_to (suc n) zero w h done = absurd (omega arith)
  run_to (suc n) (suc most) w h done =
      let o = runs_on most w done in
      ap (λ (r : RunOutcome). r.world) (run_done g n w o.step_done) ∙ run_to n most (step_of g w).world (omega arith) o.rest_done
