-- What is kept beside a run: laws of tallies, whatever is kept, and of the counts of a step.
use Rattle.std.specs.Prelude.{◌≡◌, Bool, length}
use Rattle.std.proofs.Math.Path.{refl, ap}
use Rattle.std.proofs.Common.{sym, ◌∙◌}
use Rattle.std.proofs.Math.Bool.{true, false}
use Rattle.std.proofs.lemmas.Bool.{false≢true}
use mathlib.Core.List.{List, [], ◌∷◌, ◌++◌}
use Prim.Native.Nat.{ℕ, zero, suc, ◌+◌, ◌-◌, ◌≤◌, ◌<◌}
use native.Mathlib.Omega.{arith}
use Rattle.machine.specs.declared.Machine.{Machine}
use Rattle.answers.specs.Answers.{Answer}
use Rattle.answers.specs.Numbers.{is_done}
use Rattle.instructions.specs.declared.Decoded.{Decoded}
use Rattle.instructions.specs.declared.Decoded.TheVariants.{Built, Unbuilt, Nothing}
use Rattle.pages.specs.declared.Access.{Access}
use Rattle.board.specs.declared.Region.{Region}
use Rattle.board.specs.RegionLaws.{one_access}
use Rattle.board.specs.Given.{Given}
use Rattle.steps.specs.Plan.{Plan}
use Rattle.steps.specs.OperandFound.{none_outside, outside_by}
use Rattle.steps.specs.Pass.{refused, performed}
use Rattle.steps.specs.World.{World, Outcome}
use Rattle.steps.specs.Table.{table_for, decoded_at, checks_of}
use Rattle.steps.specs.Step.{plan_of, step_of, page_plan}
use Rattle.steps.proofs.RowLaws.{plan_has}
use Rattle.steps.proofs.TableLaws.{checks_refuse}
use Rattle.steps.specs.Tally.{plan_in, plans_of, tallied, add_outside, outside_of}

-- ---- a history, step by step

module _ (g : Given) where
  pub plans_done : (n : ℕ) (w : World) → is_done (step_of g w).answer ≡ true → plans_of g (suc n) w ≡ plan_in g w ∷ plans_of g n (step_of g w).world
  unfolding plans_of
  plans_done n w h = rw h refl

  pub plans_refused : (n : ℕ) (w : World) → is_done (step_of g w).answer ≡ false → plans_of g (suc n) w ≡ []
  unfolding plans_of
  plans_refused n w h = rw h refl

  pub plans_none : (w : World) → plans_of g 0 w ≡ []
  unfolding plans_of
  plans_none w = refl

  -- where check 1 or 2 refuses, no step is done
  pub no_plans : (n : ℕ) (w : World) → is_done (checks_of g w.«data» (length w.output) w.m) ≡ false → plans_of g n w ≡ []
  no_plans zero w h = plans_none w
  no_plans (suc n) w h = plans_refused n w (ap is_done (checks_refuse g w h) ∙ h)

-- ---- a tally on its way

module _ {S : Type 0} (keep : Plan → S → S) where
  pub tally_append : (a b : List Plan) (s : S) → tallied keep (a ++ b) s ≡ tallied keep b (tallied keep a s)
  unfolding tallied
  tally_append [] b s = refl
  tally_append (p ∷ a) b s = tally_append a b (keep p s)

  module _ (g : Given) (budget : ℕ) (w₀ : World) (s₀ : S) where
    -- s is kept after k steps: the tally of the rest from there is the whole tally
    abbrev pub Tallying : World → ℕ → S → Type 0
    Tallying w k s = tallied keep (plans_of g (budget - k) w) s ≡ tallied keep (plans_of g budget w₀) s₀

    pub tallying_begins : Tallying w₀ 0 s₀
    tallying_begins = let e : budget - 0 ≡ budget = omega arith in rw e refl

    module _ (w : World) (k : ℕ) (s : S) (t : Tallying w k s) where
      pub tallying_goes : (o : Outcome) → o ≡ step_of g w → k < budget → is_done o.answer ≡ true → Tallying o.world (k + 1) (keep (plan_in g w) s)
      unfolding tallied
      tallying_goes o e l h =
          let one : budget - k ≡ suc (budget - (k + 1)) = omega arith in
          let done : is_done (step_of g w).answer ≡ true = ap (λ (x : Outcome). is_done x.answer) (sym e) ∙ h in
          let whole : plans_of g (budget - k) w ≡ plan_in g w ∷ plans_of g (budget - (k + 1)) (step_of g w).world = rw one (plans_done g (budget - (k + 1)) w done) in
          rw e (ap (λ (plans : List Plan). tallied keep plans s) (sym whole) ∙ t)

      nothing_left : plans_of g (budget - k) w ≡ [] → s ≡ tallied keep (plans_of g budget w₀) s₀
      unfolding tallied
      nothing_left none = ap (λ (plans : List Plan). tallied keep plans s) (sym none) ∙ t

      pub tallying_stops : (o : Outcome) → o ≡ step_of g w → k < budget → is_done o.answer ≡ false → s ≡ tallied keep (plans_of g budget w₀) s₀
      tallying_stops o e l h =
          let one : budget - k ≡ suc (budget - (k + 1)) = omega arith in
          nothing_left (rw one (plans_refused g (budget - (k + 1)) w (ap (λ (x : Outcome). is_done x.answer) (sym e) ∙ h)))

      pub tallying_ends : budget ≤ k → s ≡ tallied keep (plans_of g budget w₀) s₀
      tallying_ends l = let none : budget - k ≡ 0 = omega arith in nothing_left (rw none (plans_none g w))

-- ---- the counts of a step

module _ (g : Given) (w : World) where
  -- what holds of every refusal, and of what a page's rule makes, holds of the step's plan
  pub step_has : (P : Plan → Type 0) → ((a : Answer) → P (refused w.m a)) → ((x : Decoded) → P (page_plan x g w.«data» w.m)) → P (plan_in g w)
  unfolding plan_of
  step_has P r p =
      plan_has w.m _ P (table_for (decoded_at g w.«data» w.m) g w.«data» (length w.output) w.m) r (λ n. p (decoded_at g w.«data» w.m))

-- a plan counts at most one read and one write
pub record FewOutside (p : Plan) : Type 0 where
  pub one_read : p.outside.reads ≤ 1
  pub one_write : p.outside.writes ≤ 1

few_by : (access : Access) (region : Region) → ((outside_by access region).reads ≤ 1) × ((outside_by access region).writes ≤ 1)
unfolding outside_by
few_by Access.None region = (omega arith, omega arith)
few_by Access.Reads region = (one_access region, omega arith)
few_by Access.Writes region = (omega arith, one_access region)

page_few : (x : Decoded) (g : Given) (d : List ℕ) (m : Machine) → FewOutside (page_plan x g d m)
unfolding page_plan performed
page_few (Built i) g d m = let few = few_by _ _ in record { one_read = few.0; one_write = few.1 }
page_few Unbuilt g d m = record { one_read = omega arith; one_write = omega arith }
page_few Nothing g d m = record { one_read = omega arith; one_write = omega arith }

-- and one that is refused counts nothing
abbrev NoneIfRefused : Plan → Type 0
NoneIfRefused p = is_done p.answer ≡ false → p.outside ≡ none_outside

page_none : (x : Decoded) (g : Given) (d : List ℕ) (m : Machine) → NoneIfRefused (page_plan x g d m)
unfolding page_plan performed
page_none (Built i) g d m r = absurd (false≢true (sym r))
page_none Unbuilt g d m r = refl
page_none Nothing g d m r = refl

-- nor does it store: it is the plan of a refusal
abbrev RefusalIfRefused : Plan → Type 0
RefusalIfRefused p = is_done p.answer ≡ false → p ≡ refused p.m p.answer

page_refusal : (x : Decoded) (g : Given) (d : List ℕ) (m : Machine) → RefusalIfRefused (page_plan x g d m)
unfolding page_plan performed
page_refusal (Built i) g d m r = absurd (false≢true (sym r))
page_refusal Unbuilt g d m r = refl
page_refusal Nothing g d m r = refl

module _ (g : Given) (w : World) where
  pub few_outside : FewOutside (plan_in g w)
  few_outside = step_has g w FewOutside (λ a. record { one_read = omega arith; one_write = omega arith }) (λ x. page_few x g w.«data» w.m)

  pub refused_plan : is_done (step_of g w).answer ≡ false → plan_in g w ≡ refused (plan_in g w).m (plan_in g w).answer
  unfolding step_of
  refused_plan = step_has g w RefusalIfRefused (λ a r. refl) (λ x. page_refusal x g w.«data» w.m)

  pub refused_none : is_done (step_of g w).answer ≡ false → (plan_in g w).outside ≡ none_outside
  unfolding step_of
  refused_none = step_has g w NoneIfRefused (λ a r. refl) (λ x. page_none x g w.«data» w.m)

  -- a run of one step counts what that step does
  pub one_counted : outside_of g 1 w ≡ (plan_in g w).outside
  unfolding outside_of tallied add_outside
  one_counted = by (is_done (step_of g w).answer) refl
    where
      by : (t : Bool) → is_done (step_of g w).answer ≡ t → tallied add_outside (plans_of g 1 w) none_outside ≡ (plan_in g w).outside
      by true d =
          let reads : 0 + (plan_in g w).outside.reads ≡ (plan_in g w).outside.reads = omega arith in
          let writes : 0 + (plan_in g w).outside.writes ≡ (plan_in g w).outside.writes = omega arith in
          rw (plans_done g 0 w d, plans_none g (step_of g w).world, reads, writes)
      by false r = rw (plans_refused g 0 w r) (sym (refused_none r))
