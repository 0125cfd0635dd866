-- Laws of tables of answers, and of the plan that a table leaves.
use Rattle.std.specs.Prelude.{◌≡◌, Bool, not}
use Rattle.std.proofs.Math.Path.{refl, ap}
use Rattle.std.proofs.Common.{sym, ◌∙◌}
use Rattle.std.proofs.Math.Bool.{true, false, cond}
use Rattle.std.proofs.lemmas.Bool.{false≢true, not-true}
use mathlib.Core.List.{List, [], ◌∷◌, ◌++◌}
use Prim.Native.String.{String}
use lib.Text.{eqt}
use Rattle.machine.specs.declared.Machine.{Machine}
use Rattle.answers.specs.Answers.{Answer}
use Rattle.answers.specs.Answers.{Done}
use Rattle.answers.specs.Numbers.{is_done}
use Rattle.steps.specs.Plan.{Plan}
use Rattle.steps.specs.Rows.{Row, first_given, NoneHolds, holds_at}
use Rattle.steps.specs.Pass.{refused, plan_by}

-- what holds both ways
either : (P : Bool → Type 0) → P true → P false → (t : Bool) → P t
either P y n true = y
either P y n false = n

-- every row of a table is a refusal
abbrev pub Refusals : List Row → Type 0
Refusals [] = Unit {0}
Refusals (r ∷ rows) = (is_done r.answer ≡ false) × Refusals rows

-- Test: every row passes.
abbrev pub every : (Row → Bool) → List Row → Bool
every test [] = true
every test (r ∷ rows) = cond (test r) (every test rows) false

pub every_first : (test : Row → Bool) (r : Row) (rows : List Row) → every test (r ∷ rows) ≡ true → (test r ≡ true) × (every test rows ≡ true)
every_first test r rows h = by (test r) refl h
  where
    by : (t : Bool) → test r ≡ t → cond t (every test rows) false ≡ true → (test r ≡ true) × (every test rows ≡ true)
    by true e h = (e, h)
    by false e h = absurd (false≢true h)

abbrev pub refuses : Row → Bool
refuses r = not (is_done r.answer)

pub all_refuse : (rows : List Row) → every refuses rows ≡ true → Refusals rows
all_refuse [] h = tt
all_refuse (r ∷ rows) h = let both = every_first refuses r rows h in (not-true _ both.0, all_refuse rows both.1)

-- ---- where no row holds

pub none_done : (rows : List Row) → NoneHolds rows → first_given rows ≡ Done
unfolding first_given
none_done [] n = refl
none_done (r ∷ rows) n = rw n.0 (none_done rows n.1)

pub none_from : (rows : List Row) → Refusals rows → is_done (first_given rows) ≡ true → NoneHolds rows
unfolding first_given
none_from [] s e = tt
none_from (r ∷ rows) s e = by r.given refl (none_from rows s.1) e
  where
    by : (t : Bool) → r.given ≡ t → (is_done (first_given rows) ≡ true → NoneHolds rows) → is_done (cond t r.answer (first_given rows)) ≡ true → NoneHolds (r ∷ rows)
    by true g next e = absurd (false≢true (sym s.0 ∙ e))
    by false g next e = (g, next e)

-- a row by its name
pub row_not : (rows : List Row) (name : String) → NoneHolds rows → holds_at rows name ≡ false
row_not [] name n = refl
row_not (r ∷ rows) name n =
    either (λ (t : Bool). cond t r.given (holds_at rows name) ≡ false) n.0 (row_not rows name n.1) (eqt r.name name)

pub none_append : (a b : List Row) → NoneHolds (a ++ b) → NoneHolds a × NoneHolds b
none_append [] b n = (tt, n)
none_append (r ∷ a) b n = let rest = none_append a b n.1 in ((n.0, rest.0), rest.1)

-- ---- one table after another

pub first_append : (a b : List Row) → Refusals a → first_given (a ++ b) ≡ cond (is_done (first_given a)) (first_given b) (first_given a)
unfolding first_given
first_append [] b s = refl
first_append (r ∷ a) b s =
    either (λ (t : Bool). cond t r.answer (first_given (a ++ b)) ≡ cond (is_done (cond t r.answer (first_given a))) (first_given b) (cond t r.answer (first_given a)))
    (rw s.0) (first_append a b s.1) r.given

module _ (m : Machine) (p : Plan) where
  pub plan_append : (a b : List Row) → plan_by (a ++ b) m p ≡ plan_by a m (plan_by b m p)
  unfolding plan_by
  plan_append [] b = refl
  plan_append (r ∷ a) b = ap (cond r.given (refused m r.answer)) (plan_append a b)

  -- by the answer of the first row that holds
  pub plan_by_first : (rows : List Row) → Refusals rows → plan_by rows m p ≡ cond (is_done (first_given rows)) p (refused m (first_given rows))
  unfolding plan_by first_given
  plan_by_first [] s = refl
  plan_by_first (r ∷ rows) s =
      either (λ (t : Bool). cond t (refused m r.answer) (plan_by rows m p)
      ≡ cond (is_done (cond t r.answer (first_given rows))) p (refused m (cond t r.answer (first_given rows))))
      (rw s.0) (plan_by_first rows s.1) r.given

  -- what holds of every refusal, and of p where no row holds, holds of the plan
  pub plan_has : (P : Plan → Type 0) (rows : List Row) → ((a : Answer) → P (refused m a)) → (NoneHolds rows → P p) → P (plan_by rows m p)
  unfolding plan_by
  plan_has P [] f h = h tt
  plan_has P (r ∷ rows) f h = by r.given refl (λ e. plan_has P rows f (λ n. h (e, n)))
    where
      by : (t : Bool) → r.given ≡ t → (r.given ≡ false → P (plan_by rows m p)) → P (cond t (refused m r.answer) (plan_by rows m p))
      by true e next = f r.answer
      by false e next = next e

  -- the answer is the table's
  pub plan_answer : (rows : List Row) → p.answer ≡ Done → (plan_by rows m p).answer ≡ first_given rows
  unfolding plan_by first_given
  plan_answer [] e = e
  plan_answer (r ∷ rows) e =
      either (λ (t : Bool). (cond t (refused m r.answer) (plan_by rows m p)).answer ≡ cond t r.answer (first_given rows))
      refl (plan_answer rows e) r.given

  pub plan_done : (rows : List Row) → NoneHolds rows → plan_by rows m p ≡ p
  unfolding plan_by
  plan_done [] n = refl
  plan_done (r ∷ rows) n = rw n.0 (plan_done rows n.1)
