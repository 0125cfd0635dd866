-- A promise about numbers is a promise about answers: no two answers share a number.
use Rattle.std.specs.Prelude.{◌≡◌, refl, Ok, Err, Bool, true, cond, false, not, List, [], ◌∷◌, ℕ, ◌<◌, eqb, ltb}
use Rattle.std.proofs.Common.{sym, ap, ◌∙◌, ltb-true}
use Rattle.std.proofs.lemmas.Bool.{false≢true}
use Rattle.answers.specs.Answers.{Answer}
use Rattle.answers.specs.declared.Refusal.{Refusal}
use Rattle.answers.specs.Answers.{Done, CellOutOfRange, SlicesUnfit, NoEncoding, NotBuilt, ProgramAbsent, DataAbsent, NotRepeatable, WrongPort, OutputFull, InputDry, SummaryUnfit, FileShort, FileVersion, FileRules, FileNoRoom}
use Rattle.answers.specs.Numbers.{number_of, is_done}

-- the first answer of a list that has the number n
first_of : ℕ → List Answer → Answer
first_of n [] = Done
first_of n (a ∷ rest) = cond (eqb n (number_of a)) a (first_of n rest)

-- all answers
answers : List Answer
answers =
    Done
    ∷ CellOutOfRange
    ∷ SlicesUnfit
    ∷ NoEncoding
    ∷ NotBuilt
    ∷ ProgramAbsent
    ∷ DataAbsent
    ∷ NotRepeatable
    ∷ WrongPort
    ∷ OutputFull
    ∷ InputDry
    ∷ SummaryUnfit
    ∷ FileShort
    ∷ FileVersion
    ∷ FileRules
    ∷ FileNoRoom
    ∷ []

answer_with : ℕ → Answer
answer_with n = first_of n answers

back : (a : Answer) → answer_with (number_of a) ≡ a
unfolding answer_with first_of answers
back (Ok tt) = refl
back (Err Refusal.CellOutOfRange) = refl
back (Err Refusal.SlicesUnfit) = refl
back (Err Refusal.NoEncoding) = refl
back (Err Refusal.NotBuilt) = refl
back (Err Refusal.ProgramAbsent) = refl
back (Err Refusal.DataAbsent) = refl
back (Err Refusal.NotRepeatable) = refl
back (Err Refusal.WrongPort) = refl
back (Err Refusal.OutputFull) = refl
back (Err Refusal.InputDry) = refl
back (Err Refusal.SummaryUnfit) = refl
back (Err Refusal.FileShort) = refl
back (Err Refusal.FileVersion) = refl
back (Err Refusal.FileRules) = refl
back (Err Refusal.FileNoRoom) = refl

pub number_injective : (a b : Answer) → number_of a ≡ number_of b → a ≡ b
number_injective a b h = sym (back a) ∙ ap answer_with h ∙ back b

-- Test: every answer of a list passes.
every : (Answer → Bool) → List Answer → Bool
every test [] = true
every test (a ∷ rest) = cond (test a) (every test rest) false

passes : (test : Answer → Bool) (n : ℕ) (l : List Answer) → test Done ≡ true → every test l ≡ true → test (first_of n l) ≡ true
unfolding first_of every
passes test n [] d h = d
passes test n (a ∷ rest) d h = by (test a) refl h (passes test n rest d) (eqb n (number_of a))
  where
    by : (t : Bool) → test a ≡ t → cond t (every test rest) false ≡ true → (every test rest ≡ true → test (first_of n rest) ≡ true)
        → (s : Bool) → test (cond s a (first_of n rest)) ≡ true
    by true e h next true = e
    by true e h next false = next h
    by false e h next s = absurd (false≢true h)

each : (test : Answer → Bool) → test Done ≡ true → every test answers ≡ true → (a : Answer) → test a ≡ true
unfolding answer_with
each test d h a = ap test (sym (back a)) ∙ passes test (number_of a) answers d h

-- no answer's number has three digits
pub number_below : (a : Answer) → number_of a < 100
unfolding every answers
number_below a = ltb-true _ _ (each (λ (x : Answer). ltb (number_of x) 100) refl refl a)

-- 8 is retired (document 02, request 10): no answer has its number, and none is to get it again
pub never_8 : (a : Answer) → number_of a ≡ 8 → ⊥
unfolding every answers
never_8 a h = false≢true (rw h at (each (λ (x : Answer). not (eqb (number_of x) 8)) refl refl a))

-- is_done a ≡ true exactly where the number is 0, and exactly where a is Done
pub done_zero : (a : Answer) → is_done a ≡ true → number_of a ≡ 0
done_zero (Ok tt) h = refl
done_zero (Err _) h = absurd (false≢true h)

pub zero_done : (a : Answer) → number_of a ≡ 0 → is_done a ≡ true
zero_done a h = ap is_done (number_injective a Done h)

pub done_is : (a : Answer) → is_done a ≡ true → a ≡ Done
done_is a h = number_injective a Done (done_zero a h)

-- what an answer's flag tells of the answer
pub told : {flag t : Bool} {found a : Answer} → found ≡ a → flag ≡ is_done found → flag ≡ t → is_done a ≡ t
told e f g = rw (← e, ← f) g
