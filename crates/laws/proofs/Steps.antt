-- A refused step, the answers of a step, and the rows of the table: proofs.
use Rattle.std.specs.Prelude.{◌≡◌, refl, Bool, true, false, cond, List, [], ◌∷◌, ◌++◌, ℕ, length}
use Rattle.std.proofs.Common.{sym, ◌∙◌, ap, ap₂}
use Rattle.std.proofs.lemmas.Bool.{false≢true}
use Prim.Native.String.{String}
use Rattle.machine.specs.declared.Machine.{Machine}
use Rattle.answers.specs.Answers.{Answer}
use Rattle.answers.specs.Numbers.{number_of, is_done}
use Rattle.instructions.specs.declared.Instruction.{Instruction}
use Rattle.instructions.specs.declared.Decoded.{Decoded}
use Rattle.instructions.specs.declared.Decoded.TheVariants.{Built, Unbuilt, Nothing}
use Rattle.pages.specs.Traits.{traits_of}
use Rattle.steps.specs.Rows.{Row, row, first_given, NoneHolds}
use Rattle.steps.specs.Stores.{data_after, output_after}
use Rattle.steps.specs.World.{World}
use Rattle.steps.specs.Table.{decoded_at, second_word, table_for, checks_of, check_rows, fetch_rows, encoding_rows, instruction_rows, repeat_rows}
use Rattle.steps.specs.Step.{page_plan, plan_of, after_store, step_of, rows_of}
use Rattle.steps.proofs.RowLaws.{every, every_first, none_done, none_from, none_append, plan_by_first}
use Rattle.steps.specs.OperandFound.{found_for}
use Rattle.steps.specs.Refusals.{pass_rows, access_rows, rest_rows}
use Rattle.steps.proofs.TableLaws.{step_answer, rows_refuse}
use Rattle.laws.specs.Laws.{RefusedUnchanged, AnswersOfAStep, GivenBy, RowGiven, RepeatBeforeSecondWord, PortBeforeData, PortBeforeDry, DataBeforeDry, PresenceBeforeEncoding, is_among, step_numbers}
use Rattle.board.specs.Given.{Given}

-- facts one after another
infixr 4 ◌and◌
abbrev pub ◌and◌ : {A B : Type 0} → A → B → A × B
a and b = (a, b)

pub refused_unchanged : RefusedUnchanged
unfolding step_of plan_of after_store data_after output_after
refused_unchanged g w h =
    let e : is_done (first_given (rows_of g w)) ≡ false = ap is_done (sym (step_answer g w)) ∙ h in
    rw (plan_by_first w.m (page_plan (decoded_at g w.«data» w.m) g w.«data» w.m) (rows_of g w) (rows_refuse g w), e)

-- ---- numbers

numbered : Row → Bool
numbered r = is_among (number_of r.answer) step_numbers

first_numbered : (rows : List Row) → every numbered rows ≡ true → is_among (number_of (first_given rows)) step_numbers ≡ true
unfolding first_given numbered is_among step_numbers
first_numbered [] h = refl
first_numbered (r ∷ rows) h =
    let both = every_first numbered r rows h in
    by r.given both.0 (first_numbered rows both.1)
  where
    by : (t : Bool) → numbered r ≡ true → is_among (number_of (first_given rows)) step_numbers ≡ true → is_among (number_of (cond t r.answer (first_given rows))) step_numbers ≡ true
    by true e next = e
    by false e next = next

table_numbered : (d : Decoded) (g : Given) («data» : List ℕ) (output_length : ℕ) (m : Machine) → every numbered (table_for d g «data» output_length m) ≡ true
unfolding numbered is_among step_numbers table_for check_rows fetch_rows encoding_rows instruction_rows repeat_rows pass_rows access_rows rest_rows
table_numbered (Built i) g «data» output_length m = refl
table_numbered Unbuilt g «data» output_length m = refl
table_numbered Nothing g «data» output_length m = refl

-- 8 is retired
pub eight_not_among : is_among 8 step_numbers ≡ false
unfolding is_among step_numbers
eight_not_among = refl

pub answers_of_a_step : AnswersOfAStep
answers_of_a_step g w =
    rw (step_answer g w) (first_numbered (rows_of g w) (table_numbered (decoded_at g w.«data» w.m) g w.«data» (length w.output) w.m))

pub answers_of_checks : (g : Given) («data» : List ℕ) (output_length : ℕ) (m : Machine) → is_among (number_of (checks_of g «data» output_length m)) step_numbers ≡ true
unfolding checks_of check_rows numbered is_among step_numbers
answers_of_checks g «data» output_length m = first_numbered (check_rows g «data» output_length m) refl

-- ---- rows

-- the rows of the pass, of a table in which none holds
pub pass_none : (i : Instruction) (g : Given) («data» : List ℕ) (output_length : ℕ) (m : Machine) → NoneHolds (table_for (Built i) g «data» output_length m)
    → NoneHolds (pass_rows (traits_of i) (found_for (traits_of i) «data» m).region (second_word i g «data» m) (length g.input) output_length m)
unfolding table_for instruction_rows
pass_none i g «data» output_length m n =
    let fetched = (none_append (check_rows g «data» output_length m) _ n).1 in
    let decoded = (none_append (fetch_rows m) _ fetched).1 in
    let instruction = (none_append (encoding_rows (Built i)) _ decoded).1 in
    (none_append (repeat_rows i m) _ instruction).1

first_is : (a : Answer) (name : String) (before after : List Row) → NoneHolds before → first_given (before ++ (row name a true ∷ after)) ≡ a
unfolding first_given
first_is a name [] after n = refl
first_is a name (r ∷ before) after n = rw n.0 (first_is a name before after n.1)

pub first_given_lem : (rows : List Row) (a : Answer) → GivenBy a rows → first_given rows ≡ a
first_given_lem rows a b = ap first_given b.in_order ∙ first_is a b.name b.earlier b.later b.none_earlier

pub first_from : (rows : List Row) (a : Answer) → is_done a ≡ false → first_given rows ≡ a → GivenBy a rows
unfolding first_given
first_from [] a h e = absurd (false≢true (sym h ∙ sym (ap is_done e)))
first_from (r ∷ rows) a h e = by r.given refl (first_from rows a h) e
  where
    by : (t : Bool) → r.given ≡ t → (first_given rows ≡ a → GivenBy a rows) → cond t r.answer (first_given rows) ≡ a → GivenBy a (r ∷ rows)
    by true g next e = record { earlier = []; name = r.name; later = rows; in_order = ap (λ (x : Row). x ∷ rows) (ap₂ (row r.name) e g); none_earlier = tt }
    by false g next e =
        let f = next e in
        record { earlier = r ∷ f.earlier; name = f.name; later = f.later; in_order = ap (λ (l : List Row). r ∷ l) f.in_order; none_earlier = (g, f.none_earlier) }

pub row_given : (g : Given) (w : World) → RowGiven g w
row_given g w = record {
  given_by = λ a b. step_answer g w ∙ first_given_lem (rows_of g w) a b;
  only_by = λ a h e. first_from (rows_of g w) a h (sym (step_answer g w) ∙ e);
  done_by = λ n. step_answer g w ∙ none_done (rows_of g w) n;
  done_only = λ e. none_from (rows_of g w) (rows_refuse g w) (ap is_done (sym (step_answer g w) ∙ e));
}

-- ---- the order, where two conditions hold at once

pub presence_before_encoding : PresenceBeforeEncoding
unfolding first_given table_for check_rows fetch_rows encoding_rows instruction_rows repeat_rows pass_rows access_rows
presence_before_encoding g «data» output_length m r s p = rw (r, s, p)

pub repeat_before_second_word : RepeatBeforeSecondWord
unfolding first_given table_for check_rows fetch_rows encoding_rows instruction_rows repeat_rows pass_rows access_rows
repeat_before_second_word g w i s repeated absent =
    rw (step_answer g w, s.word_is, s.cells_in_range, s.slices_of_size, s.word_present, repeated)

pub port_before_data : PortBeforeData
unfolding first_given table_for check_rows fetch_rows encoding_rows instruction_rows repeat_rows pass_rows access_rows
port_before_data g w i s repeats present wrong absent =
    rw (step_answer g w, s.word_is, s.cells_in_range, s.slices_of_size, s.word_present, repeats, present, wrong)

pub port_before_dry : PortBeforeDry
unfolding first_given table_for check_rows fetch_rows encoding_rows instruction_rows repeat_rows pass_rows access_rows
port_before_dry g w i s repeats present wrong dry =
    rw (step_answer g w, s.word_is, s.cells_in_range, s.slices_of_size, s.word_present, repeats, present, wrong)

pub data_before_dry : DataBeforeDry
unfolding first_given table_for check_rows fetch_rows encoding_rows instruction_rows repeat_rows pass_rows access_rows
data_before_dry g w i s repeats present right absent dry =
    rw (step_answer g w, s.word_is, s.cells_in_range, s.slices_of_size, s.word_present, repeats, present, right, absent)
