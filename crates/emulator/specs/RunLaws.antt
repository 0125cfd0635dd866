-- Checks 1 and 2 made once, before a step or a run: proofs.
use Rattle.std.specs.Prelude.{◌≡◌, Bool, List, [], ◌∷◌, length, get_or, Result, Ok, Err, IsErr, IsErrAnd}
use Rattle.std.proofs.lemmas.Bool.{false≢true}
use Rattle.std.proofs.Math.Path.{refl, sym, ap}
use Rattle.std.proofs.Common.{◌∙◌, arith}
use Rattle.std.proofs.Math.Bool.{true, false}
use Prim.Native.Nat.{ℕ, zero, suc, ◌+◌, ◌*◌, ◌/◌, ◌%◌, ◌^◌, ◌≤◌, ◌<◌}
use Rattle.machine.specs.declared.Machine.{Machine}
use Rattle.machine.specs.Range.{in_range}
use Rattle.answers.specs.Answers.{Answer}
use Rattle.answers.specs.Answers.{Done}
use Rattle.answers.specs.declared.Refusal.{Refusal}
use Rattle.answers.specs.Numbers.{is_done}
use Rattle.answers.proofs.NumberLaws.{done_is}
use Rattle.board.specs.Slices.{slices_fit}
use Rattle.board.specs.Given.{Given}
use Rattle.steps.specs.Rows.{NoneHolds}
use Rattle.steps.specs.Stores.{data_after, output_after}
use Rattle.steps.specs.Pass.{refused}
use Rattle.steps.proofs.StoreLaws.{WriteFits}
use Rattle.steps.specs.World.{World, Outcome, RunOutcome}
use Rattle.steps.specs.Table.{checks_of, check_rows}
use Rattle.steps.specs.Step.{plan_of, after_store, step_of, run_of, one_more}
use Rattle.steps.proofs.Stages.{fetch_plan, stages}
use Rattle.kinds.specs.Table.{kind_table}
use Rattle.fetching.specs.ByTable.{fetch_plan_by}
use Rattle.fetching.specs.TableLaws.{fetch_by_kinds}
use Rattle.steps.proofs.StepLaws.{step_fits, Running, running_begins, running_goes, running_stops, running_ends}
use Rattle.steps.specs.declared.Outside.{Outside}
use Rattle.steps.specs.OperandFound.{none_outside}
use Rattle.steps.specs.Tally.{plan_in, plans_of, tallied, both_outside, add_outside, outside_of}
use Rattle.steps.proofs.TallyLaws.{few_outside, Tallying, tallying_begins, tallying_goes, tallying_stops, tallying_ends, no_plans, refused_none, one_counted}
use Rattle.laws.proofs.Steps.{refused_unchanged}
use Rattle.steps.specs.Summary.{add_store}
use Rattle.steps.proofs.SummaryLaws.{plan_sized, refused_adds}
use Rattle.emulator.specs.Totals.{in_one, apart_from}
use Rattle.steps.proofs.RowLaws.{Refusals, all_refuse, none_from, row_not, plan_done, plan_by_first}
use Rattle.ranges.specs.Ranges.{WordsFit, WorldInRange}
use Rattle.ranges.proofs.Operands.{program_word_lt}
use Rattle.ranges.proofs.Steps.{step_in_range}
use Rattle.ranges.proofs.Runs.{checks_done}
use borrow.Author.Tests.{not-false}

module _ (g : Given) (d : List ℕ) (o : ℕ) (m : Machine) where
  check_refusals : Refusals (check_rows g d o m)
  unfolding check_rows
  check_refusals = all_refuse (check_rows g d o m) refl

  none_checked : checks_of g d o m ≡ Done → NoneHolds (check_rows g d o m)
  unfolding checks_of
  none_checked e = none_from (check_rows g d o m) check_refusals (ap is_done e)

  -- what checks 1 and 2 have passed
  checked_by : checks_of g d o m ≡ Done → (in_range m ≡ true) × (slices_fit m g.rom d g.input o ≡ true)
  unfolding check_rows
  checked_by e = (not-false _ (row_not (check_rows g d o m) "1" (none_checked e)), not-false _ (row_not (check_rows g d o m) "2" (none_checked e)))

  checked_plan : checks_of g d o m ≡ Done → plan_of g d o m ≡ fetch_plan g d o m
  checked_plan e = stages g d o m ∙ plan_done m (fetch_plan g d o m) (check_rows g d o m) (none_checked e)

  pub unchecked_plan : is_done (checks_of g d o m) ≡ false → plan_of g d o m ≡ refused m (checks_of g d o m)
  unfolding checks_of
  unchecked_plan e = stages g d o m ∙ plan_by_first m (fetch_plan g d o m) (check_rows g d o m) check_refusals ∙ rw e

  -- the plan that the code makes, by a table that is lent to it
  module _ (kinds : List ℕ) (k : kinds ≡ kind_table) (r : WordsFit g.rom) (w : WordsFit d) (e : checks_of g d o m ≡ Done) where
    pub table_plan : fetch_plan_by kinds g d o m ≡ plan_of g d o m
    table_plan = rw (k, checked_plan e) (fetch_by_kinds g d o m (program_word_lt m.cnf m.pc g.rom d r w))

    pub table_fits : WriteFits (fetch_plan_by kinds g d o m).write (length d)
    table_fits = rw table_plan (step_fits g d o m)

module _ (g : Given) where
  -- the checks of a world
  abbrev pub checks_in : World → Answer
  checks_in w = checks_of g w.«data» (length w.output) w.m

  pub refused_step : (w : World) → is_done (checks_in w) ≡ false → step_of g w ≡ record { world = w; answer = checks_in w }
  unfolding step_of after_store data_after output_after
  refused_step w e = rw (unchecked_plan g w.«data» (length w.output) w.m e) refl

  pub refused_run : (budget : ℕ) (w : World) → is_done (checks_in w) ≡ false → run_of g budget w ≡ record { world = w; steps = 0; answer = checks_in w }
  unfolding run_of
  refused_run zero w e = refl
  refused_run (suc n) w e = rw (refused_step w e, e) refl

  pub refused_counts : (budget : ℕ) (w : World) → is_done (checks_in w) ≡ false → outside_of g budget w ≡ none_outside
  unfolding outside_of tallied
  refused_counts budget w e = rw (no_plans g budget w e) refl

  pub refused_stores : (budget : ℕ) (w : World) (s : List ℕ) → is_done (checks_in w) ≡ false → tallied add_store (plans_of g budget w) s ≡ s
  unfolding tallied
  refused_stores budget w s e = rw (no_plans g budget w e) refl

  pub in_range_checks : (w : World) → WorldInRange g w → checks_in w ≡ Done
  in_range_checks w k = checks_done g w.«data» (length w.output) w.m k.in_range k.slices_fit

  -- what the loop of a run keeps besides: the world is in range
  pub record Going (budget : ℕ) (w₀ w : World) (k : ℕ) : Type 0 where
    pub running : Running g budget w₀ w k
    pub in_range : WorldInRange g w

  module _ (budget : ℕ) (w₀ w : World) (k : ℕ) (going : Going budget w₀ w k) where
    pub going_checks : checks_in w ≡ Done
    going_checks = in_range_checks w going.in_range

    pub going_on : (out : Outcome) → out ≡ step_of g w → k < budget → is_done out.answer ≡ true
        → length out.world.«data» ≡ length w.«data» → length out.world.output ≡ length w.output → Going budget w₀ out.world (k + 1)
    going_on out e l h dl ol = record {
      running = running_goes g budget w₀ w k going.running out e l h dl ol;
      in_range = rw e (step_in_range g w going.in_range);
    }

    pub going_ends : budget ≤ k → record { world = w; steps = k; answer = Done } ≡ run_of g budget w₀
    going_ends l = rw (← going_checks) (running_ends g budget w₀ w k going.running l)

-- ---- the totals of a run

-- what the loop of a run keeps beside its steps: the counts of k steps in one number, each at most k
pub record Totalling (g : Given) (budget : ℕ) (w₀ w : World) (k totals : ℕ) : Type 0 where
  pub so_far : Outside
  pub in_one : totals ≡ in_one so_far
  pub reads_within : so_far.reads ≤ k
  pub writes_within : so_far.writes ≤ k
  pub tallying : Tallying add_outside g budget w₀ none_outside w k so_far

pub apart_again : (o : Outside) → o.reads < 65536 → apart_from (in_one o) ≡ o
unfolding apart_from in_one
apart_again o l =
    let reads : (o.reads + 65536 * o.writes) % 65536 ≡ o.reads = omega arith in
    let writes : (o.reads + 65536 * o.writes) / 65536 ≡ o.writes = omega arith in
    rw (reads, writes)

module _ (g : Given) (budget : ℕ) (w₀ : World) where
  pub totalling_begins : Totalling g budget w₀ w₀ 0 0
  unfolding in_one
  totalling_begins = record { so_far = none_outside; in_one = refl; reads_within = omega arith; writes_within = omega arith; tallying = tallying_begins add_outside g budget w₀ none_outside }

  module _ (w : World) (k totals : ℕ) (c : Totalling g budget w₀ w k totals) where
    pub totalling_goes : (out : Outcome) → out ≡ step_of g w → k < budget → is_done out.answer ≡ true → (x : Outside) → x ≡ (plan_in g w).outside
        → Totalling g budget w₀ out.world (k + 1) (totals + in_one x)
    unfolding in_one add_outside
    totalling_goes out e l h x f =
        let few = few_outside g w in
        rw f
        (record {
          so_far = both_outside c.so_far (plan_in g w).outside;
          in_one = omega (arith, c.in_one);
          reads_within = omega (arith, few.one_read, c.reads_within);
          writes_within = omega (arith, few.one_write, c.writes_within);
          tallying = tallying_goes add_outside g budget w₀ none_outside w k c.so_far c.tallying out e l h;
        })

    pub counted_fits : k < budget → budget < 65536 → (x : Outside) → x ≡ (plan_in g w).outside → totals + in_one x < 2 ^ 32
    unfolding in_one
    counted_fits l b x f = let few = few_outside g w in rw f (omega (arith, c.in_one, c.reads_within, c.writes_within, few.one_read, few.one_write))

    totals_are : k < 65536 → c.so_far ≡ outside_of g budget w₀ → apart_from totals ≡ outside_of g budget w₀
    totals_are l e = ap apart_from c.in_one ∙ (apart_again c.so_far (omega (arith, c.reads_within)) ∙ e)

    pub totalling_stops : budget < 65536 → (out : Outcome) → out ≡ step_of g w → k < budget → is_done out.answer ≡ false → apart_from totals ≡ outside_of g budget w₀
    unfolding outside_of
    totalling_stops b out e l h = totals_are (omega arith) (tallying_stops add_outside g budget w₀ none_outside w k c.so_far c.tallying out e l h)

    pub totalling_ends : k < 65536 → budget ≤ k → apart_from totals ≡ outside_of g budget w₀
    unfolding outside_of
    totalling_ends b l = totals_are b (tallying_ends add_outside g budget w₀ none_outside w k c.so_far c.tallying l)

-- ---- what the types of lent words tell

pub words_fit : (l : List ℕ) → ((i : ℕ) → get_or l i 0 < 2 ^ 16) → WordsFit l
words_fit [] f = tt
words_fit (x ∷ l) f = (f 0, words_fit l (λ i. f (suc i)))

module _ (g : Given) (budget : ℕ) (w : World) where
  pub going_begins : checks_of g w.«data» (length w.output) w.m ≡ Done
      → WordsFit g.rom → WordsFit g.input → WordsFit w.«data» → WordsFit w.output → Going g budget w w 0
  going_begins e r i d o =
      let b = checked_by g w.«data» (length w.output) w.m e in
      record {
        running = running_begins g budget w;
        in_range = record { in_range = b.0; slices_fit = b.1; rom_words = r; input_words = i; data_words = d; output_words = o };
      }

-- ---- all that the loop of a run keeps

-- w after k steps, beside the counts and the summary of these steps
pub record Kept (g : Given) (budget : ℕ) (w₀ : World) (s₀ : List ℕ) (w : World) (s : List ℕ) (k totals : ℕ) : Type 0 where
  pub going : Going g budget w₀ w k
  pub totalling : Totalling g budget w₀ w k totals
  pub tallying : Tallying add_store g budget w₀ s₀ w k s
  pub same_size : length s ≡ length s₀

-- what the run then gives
abbrev RunGives : Given → ℕ → World → List ℕ → RunOutcome → Outside → List ℕ → Type 0
RunGives g budget w₀ s₀ r outside s = (r ≡ run_of g budget w₀) × ((outside ≡ outside_of g budget w₀) × (s ≡ tallied add_store (plans_of g budget w₀) s₀))

module _ (g : Given) (budget : ℕ) (w₀ : World) (s₀ : List ℕ) where
  pub kept_begins : Going g budget w₀ w₀ 0 → Kept g budget w₀ s₀ w₀ s₀ 0 0
  kept_begins going = record { going = going; totalling = totalling_begins g budget w₀; tallying = tallying_begins add_store g budget w₀ s₀; same_size = refl }

  module _ (w : World) (s : List ℕ) (k totals : ℕ) (kept : Kept g budget w₀ s₀ w s k totals) where
    pub kept_ends : budget < 65536 → budget ≤ k → RunGives g budget w₀ s₀ (record { world = w; steps = budget; answer = Done }) (apart_from totals) s
    kept_ends b l = (
      ap (λ (n : ℕ). record { world = w; steps = n; answer = Done }) (omega (arith, kept.going.running.within)) ∙ going_ends g budget w₀ w k kept.going l,
      (
        totalling_ends g budget w₀ w k totals kept.totalling (omega (arith, kept.going.running.within)) l,
        tallying_ends add_store g budget w₀ s₀ w k s kept.tallying l,
      ),
    )

    -- after one step more
    module _ (out : Outcome) (s₂ : List ℕ) (e : out ≡ step_of g w) (f : s₂ ≡ add_store (plan_in g w) s) (l : k < budget) where
      pub kept_on : is_done out.answer ≡ true → length out.world.«data» ≡ length w.«data» → length out.world.output ≡ length w.output
          → (x : Outside) → x ≡ (plan_in g w).outside → Kept g budget w₀ s₀ out.world s₂ (k + 1) (totals + in_one x)
      kept_on h dl ol x u = record {
        going = going_on g budget w₀ w k kept.going out e l h dl ol;
        totalling = totalling_goes g budget w₀ w k totals kept.totalling out e l h x u;
        tallying = rw f (tallying_goes add_store g budget w₀ s₀ w k s kept.tallying out e l h);
        same_size = ap (λ (x : List ℕ). length x) f ∙ plan_sized (plan_in g w) s ∙ kept.same_size;
      }

      pub kept_stops : budget < 65536 → is_done out.answer ≡ false
          → RunGives g budget w₀ s₀ (record { world = out.world; steps = k; answer = out.answer }) (apart_from totals) s₂
      kept_stops b h =
          let refused : is_done (step_of g w).answer ≡ false = ap (λ (x : Outcome). is_done x.answer) (sym e) ∙ h in (
            running_stops g budget w₀ w k kept.going.running out e l h,
            (
              totalling_stops g budget w₀ w k totals kept.totalling b out e l h,
              f ∙ refused_adds g w s refused ∙ tallying_stops add_store g budget w₀ s₀ w k s kept.tallying out e l h,
            ),
          )

-- ---- what a `?` passes on

pub passed_on : {A E : Type 0} (r : Result A E) (e : E) → IsErr r × IsErrAnd r (λ (x : E). x ≡ e) → r ≡ Err e
passed_on (Ok x) e h = absurd (false≢true h.0)
passed_on (Err x) e h = ap Err h.1

-- ---- a run of one step is that step

-- what a run leaves, without its count
abbrev pub outcome_of : RunOutcome → Outcome
outcome_of r = record { world = r.world; answer = r.answer }

-- a world as a step leaves it that is done
abbrev pub outcome_done : World → Outcome
outcome_done w = record { world = w; answer = Done }

module _ (g : Given) (w : World) where
  last_done : (a : Answer) → is_done a ≡ true → checks_in g (step_of g w).world ≡ Done → (step_of g w).answer ≡ a
      → outcome_of (one_more (run_of g 0 (step_of g w).world)) ≡ step_of g w
  unfolding run_of
  last_done a d k e = ap (λ (x : Answer). record { world = (step_of g w).world; answer = x }) (k ∙ sym (e ∙ done_is a d))

  one_checked : WorldInRange g w → (t : Bool) → is_done (step_of g w).answer ≡ t
      → outcome_of (run_of g 1 w) ≡ step_of g w
  unfolding run_of
  one_checked k true e = rw e (last_done _ e (in_range_checks g (step_of g w).world (step_in_range g w k)) refl)
  one_checked k false e = rw e refl

  one_by : (t : Bool) → is_done (checks_in g w) ≡ t → (is_done (checks_in g w) ≡ true → WorldInRange g w)
      → outcome_of (run_of g 1 w) ≡ step_of g w
  one_by true e f = one_checked (f e) (is_done (step_of g w).answer) refl
  one_by false e f = rw (refused_run g 1 w e, refused_step g w e) refl

  pub one_step : (is_done (checks_in g w) ≡ true → WorldInRange g w) → outcome_of (run_of g 1 w) ≡ step_of g w
  one_step f = one_by (is_done (checks_in g w)) refl f

  -- what the code gives of that step, from a run of one step
  module _ (r : RunOutcome) (x : Outside) (e : r ≡ run_of g 1 w) (o : x ≡ outside_of g 1 w) (f : is_done (checks_in g w) ≡ true → WorldInRange g w) where
    is_step : outcome_of r ≡ step_of g w
    is_step = ap outcome_of e ∙ one_step f

    pub done_step : r.answer ≡ Done → (outcome_done r.world ≡ step_of g w) × (x ≡ (plan_in g w).outside)
    done_step h = (ap (λ (a : Answer). record { world = r.world; answer = a }) (sym h) ∙ is_step, o ∙ one_counted g w)

    -- a refused step leaves the world that it got, so that its machine need not come back
    pub refused_once : (refusal : Refusal) → r.answer ≡ Err refusal
        → (record { world = record { m = w.m; «data» = r.world.«data»; output = r.world.output }; answer = Err refusal } ≡ step_of g w) × (none_outside ≡ (plan_in g w).outside)
    refused_once refusal h =
        let not_done : is_done (step_of g w).answer ≡ false = ap (λ (s : Outcome). is_done s.answer) (sym is_step) ∙ ap is_done h in
        let same : r.world ≡ w = ap (λ (s : Outcome). s.world) is_step ∙ refused_unchanged g w not_done in (
          ap (λ (u : World). record { world = record { m = w.m; «data» = u.«data»; output = u.output }; answer = Err refusal }) same
              ∙ (ap (λ (a : Answer). record { world = w; answer = a }) (sym h) ∙ (ap (λ (u : World). record { world = u; answer = r.answer }) (sym same) ∙ is_step)),
          sym (refused_none g w not_done),
        )
