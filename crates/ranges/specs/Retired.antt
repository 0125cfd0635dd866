-- Answer 8, "a direct address above 65,535", is retired (document 02, request 10): check 1 leaves no such address. Here the table of answers has 8's row
-- again, in its old place and under its condition, but with any answer: a step and a run by that table give what the real ones give.
use Rattle.std.specs.Prelude.{◌≡◌, Bool, true, false, cond, ◌&&◌, List, [], ◌∷◌, map, ℕ, zero, suc, ◌≤◌, ltb, length}
use Prim.Native.String.{String}
use lib.Text.{eqt}
use Rattle.machine.specs.declared.Machine.{Machine}
use Rattle.machine.specs.Range.{in_range}
use Rattle.answers.specs.Answers.{Answer}
use Rattle.answers.specs.Numbers.{is_done}
use Rattle.instructions.specs.declared.Instruction.{Instruction}
use Rattle.instructions.specs.declared.Decoded.{Decoded}
use Rattle.instructions.specs.declared.Decoded.TheVariants.{Built, Unbuilt, Nothing}
use Rattle.instructions.specs.Decode.{decode_of}
use Rattle.pages.specs.Traits.{traits_of}
use Rattle.pages.specs.Addressing.{address_of}
use Rattle.board.specs.Given.{Given}
use Rattle.steps.specs.Plan.{Plan}
use Rattle.steps.specs.Rows.{Row, row, first_given}
use Rattle.steps.specs.Refusals.{accesses}
use Rattle.steps.specs.Pass.{plan_by}
use Rattle.steps.specs.World.{World, Outcome, RunOutcome}
use Rattle.steps.specs.Table.{decoded_at, checks_of}
use Rattle.steps.specs.Step.{page_plan, after_store, step_of, run_of, rows_of, one_more, stopped}

-- An address is at most 65,535 (511 * 128 + 127) where check 1 is passed, whatever word the instruction was decoded from.
abbrev pub AddressBelow : Type 0
AddressBelow = (m : Machine) (w : ℕ) (i : Instruction) → in_range m ≡ true → decode_of w ≡ Built i → address_of (traits_of i).operand m ≤ 65535

-- 8's condition, "a direct address above 65,535", of an instruction that reads or writes the addressed word; an indirect address is a register's
unfoldable pub address_above : Decoded → Machine → Bool
address_above (Built i) m = accesses (traits_of i).access && ltb 65535 (address_of (traits_of i).operand m)
address_above Unbuilt m = false
address_above Nothing m = false

-- it does not hold where check 1 is passed
abbrev pub NoneAbove : Type 0
NoneAbove = (g : Given) («data» : List ℕ) (m : Machine) → in_range m ≡ true → address_above (decoded_at g «data» m) m ≡ false

-- a table with one row more, before the row of a name
unfoldable pub with_row_before : String → Row → List Row → List Row
with_row_before name r [] = []
with_row_before name r (s ∷ rows) = cond (eqt s.name name) (r ∷ s ∷ rows) (s ∷ with_row_before name r rows)

-- "9, 8, 6": the table of answers with 8's row, which gives the answer a
unfoldable pub former_rows : Answer → Given → World → List Row
former_rows a g w = with_row_before "6" (row "8" a (address_above (decoded_at g w.«data» w.m) w.m)) (rows_of g w)

-- where the row stands: "Order in a step: 1, 2, 5 for the first word, 3, 4, 7, 5 for the second word, 9, 8, 6, 5 for a MAC or MACD table word, 10.",
-- with 11, which document 02 puts "after 6 and before the table word's 5"
abbrev pub FormerOrder : Type 0
FormerOrder = (a : Answer) (g : Given) (w : World) (i : Instruction) → decoded_at g w.«data» w.m ≡ Built i
    → map (λ (r : Row). r.name) (former_rows a g w)
    ≡ "1" ∷ "2" ∷ "5 for the first word" ∷ "3" ∷ "4" ∷ "7" ∷ "5 for the second word" ∷ "9" ∷ "8" ∷ "6" ∷ "11" ∷ "5 for a MAC or MACD table word" ∷ "10" ∷ []

-- a step and a run by that table
unfoldable pub former_plan : Answer → Given → World → Plan
former_plan a g w = plan_by (former_rows a g w) w.m (page_plan (decoded_at g w.«data» w.m) g w.«data» w.m)

unfoldable pub former_step : Answer → Given → World → Outcome
former_step a g w = record { world = after_store (former_plan a g w) w; answer = (former_plan a g w).answer }

unfoldable pub former_run : Answer → Given → ℕ → World → RunOutcome
former_run a g zero w = record { world = w; steps = 0; answer = checks_of g w.«data» (length w.output) w.m }
former_run a g (suc n) w =
    cond (is_done (former_step a g w).answer)
    (one_more (former_run a g n (former_step a g w).world))
    (stopped (former_step a g w))

-- "with every other answer for every input remaining what it was"
pub record EightRetired (a : Answer) (g : Given) (w : World) : Type 0 where
  pub same_answer : first_given (former_rows a g w) ≡ first_given (rows_of g w)
  pub same_step : former_step a g w ≡ step_of g w
  pub same_run : (budget : ℕ) → former_run a g budget w ≡ run_of g budget w
