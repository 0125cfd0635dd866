-- The laws of steps and runs, as statements.
use Rattle.std.specs.Prelude.{◌≡◌, true, false, Bool, cond, List, [], ◌∷◌, ◌++◌, ℕ, zero, suc, ◌+◌, ◌*◌, ◌/◌, ◌-◌, ◌≤◌, ◌<◌, min, length, get_or, eqb}
use Prim.Native.String.{String}
use Rattle.std.specs.Borrow.{Bor}
use Rattle.alu.specs.Registers.{wrapped_sum}
use Rattle.machine.specs.declared.Machine.{Machine}
use Rattle.operands.specs.declared.Address.{Address}
use Rattle.machine.specs.Cells.{with_pc, with_mid, with_rptc}
use Rattle.machine.specs.Range.{in_range}
use Rattle.instructions.specs.declared.Instruction.{Instruction}
use Rattle.instructions.specs.declared.Instruction.TheVariants.{Transfers}
use Rattle.instructions.specs.declared.Transfers.TheVariants.{In}
use Rattle.instructions.specs.declared.Decoded.TheVariants.{Built, Nothing}
use Rattle.pages.specs.declared.Access.{Access}
use Rattle.pages.specs.Traits.{traits_of}
use Rattle.pages.specs.Addressing.{address_of}
use Rattle.pages.specs.declared.Words.{Words}
use Rattle.pages.specs.declared.Effect.{Effect}
use Rattle.pages.specs.declared.Store.TheVariants as Left
use Rattle.answers.specs.Answers.{Answer}
use Rattle.answers.specs.Answers.{Done, InputDry, SummaryUnfit}
use Rattle.answers.specs.Numbers.{number_of, is_done}
use Rattle.board.specs.Regions.{within, data_region, move_allowed, in_rom, in_program_b0, program_present}
use Rattle.board.specs.Slices.{slices_fit}
use Rattle.board.specs.Windows.{window_start}
use Rattle.board.specs.Given.{Given}
use Rattle.steps.specs.declared.Outside.{Outside}
use Rattle.steps.specs.Plan.{Plan}
use Rattle.steps.specs.declared.Write.{Write}
use Rattle.steps.specs.Rows.{Row, row, first_given, NoneHolds}
use Rattle.steps.specs.OperandFound.{found_for, none_outside}
use Rattle.steps.specs.Refusals.{wrong_port, data_absent, input_dry}
use Rattle.steps.specs.Stores.{write_of, data_after, output_after}
use Rattle.steps.specs.Pass.{words_read, effect_of, passed_write}
use Rattle.steps.specs.World.{World, RunOutcome}
use Rattle.steps.specs.Table.{decoded_at, second_word, not_repeatable, second_absent, table_for, checks_of}
use Rattle.steps.specs.Step.{step_of, run_of, rows_of, world_after}
use Rattle.steps.specs.Tally.{plan_in, plans_of, tallied, both_outside, outside_of}
use Rattle.steps.specs.Summary.{fresh_summary, rows_with, run_with, plans_with, outside_with, summary_with}

-- ---- a refused step

-- "A refusal returns the state given, and data, output and cursors hold what they held before that step."
abbrev pub RefusedUnchanged : Type 0
RefusedUnchanged = (g : Given) (w : World) → is_done (step_of g w).answer ≡ false → (step_of g w).world ≡ w

-- ---- the answers

-- the numbers of a step and of a run without a summary in the table "Numbers that come back", without 8, which is retired, and with 11
unfoldable pub step_numbers : List ℕ
step_numbers = 0 ∷ 1 ∷ 2 ∷ 3 ∷ 4 ∷ 5 ∷ 6 ∷ 7 ∷ 9 ∷ 10 ∷ 11 ∷ []

-- n is one of the numbers
unfoldable pub is_among : ℕ → List ℕ → Bool
is_among n [] = false
is_among n (k ∷ ks) = cond (eqb n k) true (is_among n ks)

abbrev pub AnswersOfAStep : Type 0
AnswersOfAStep = (g : Given) (w : World) → is_among (number_of (step_of g w).answer) step_numbers ≡ true

abbrev pub AnswersOfARun : Type 0
AnswersOfARun = (g : Given) (budget : ℕ) (w : World) → is_among (number_of (run_of g budget w).answer) step_numbers ≡ true

-- ---- the rows of the table of answers

-- a is the answer of a row whose condition holds, and no earlier row's does
pub record GivenBy (a : Answer) (rows : List Row) : Type 0 where
  pub earlier : List Row
  pub name : String
  pub later : List Row
  pub in_order : rows ≡ earlier ++ (row name a true ∷ later)
  pub none_earlier : NoneHolds earlier

-- "Given exactly when": a row's answer is given exactly when its condition holds and no earlier row's does, and 0 exactly when no row's does
pub record RowGiven (g : Given) (w : World) : Type 0 where
  pub given_by : (a : Answer) → GivenBy a (rows_of g w) → (step_of g w).answer ≡ a
  pub only_by : (a : Answer) → is_done a ≡ false → (step_of g w).answer ≡ a → GivenBy a (rows_of g w)
  pub done_by : NoneHolds (rows_of g w) → (step_of g w).answer ≡ Done
  pub done_only : (step_of g w).answer ≡ Done → NoneHolds (rows_of g w)

-- ---- the order, where two conditions hold at once

-- a world that passes checks 1 and 2, with an instruction that is built at PC
pub record Meets (g : Given) (w : World) (i : Instruction) : Type 0 where
  pub cells_in_range : in_range w.m ≡ true
  pub slices_of_size : slices_fit w.m g.rom w.«data» g.input (length w.output) ≡ true
  pub word_present : program_present w.m.cnf w.m.pc ≡ true
  pub word_is : decoded_at g w.«data» w.m ≡ Built i

-- "7, 5 for the second word": a branch after RPTK at the end of the ROM
abbrev pub RepeatBeforeSecondWord : Type 0
RepeatBeforeSecondWord = (g : Given) (w : World) (i : Instruction) → Meets g w i
    → not_repeatable w.m i ≡ true → second_absent w.m i ≡ true
    → number_of (step_of g w).answer ≡ 7

-- 9, 6: a wrong port, with an address that is absent
abbrev pub PortBeforeData : Type 0
PortBeforeData = (g : Given) (w : World) (i : Instruction) → Meets g w i
    → not_repeatable w.m i ≡ false → second_absent w.m i ≡ false
    → wrong_port (traits_of i).port ≡ true → data_absent (traits_of i) (found_for (traits_of i) w.«data» w.m).region ≡ true
    → number_of (step_of g w).answer ≡ 9

-- 9, 11: an IN from a port other than 0, with the input dry
abbrev pub PortBeforeDry : Type 0
PortBeforeDry = (g : Given) (w : World) (i : Instruction) → Meets g w i
    → not_repeatable w.m i ≡ false → second_absent w.m i ≡ false
    → wrong_port (traits_of i).port ≡ true → input_dry (traits_of i) (length g.input) w.m ≡ true → number_of (step_of g w).answer ≡ 9

-- 6, 11: an IN to an address that is absent, with the input dry
abbrev pub DataBeforeDry : Type 0
DataBeforeDry = (g : Given) (w : World) (i : Instruction) → Meets g w i
    → not_repeatable w.m i ≡ false → second_absent w.m i ≡ false
    → wrong_port (traits_of i).port ≡ false → data_absent (traits_of i) (found_for (traits_of i) w.«data» w.m).region ≡ true
    → input_dry (traits_of i) (length g.input) w.m ≡ true
    → number_of (step_of g w).answer ≡ 6

-- "5 for the first word, 3": of the table alone, since no word stands at an absent address
abbrev pub PresenceBeforeEncoding : Type 0
PresenceBeforeEncoding = (g : Given) («data» : List ℕ) (output_length : ℕ) (m : Machine) → in_range m ≡ true → slices_fit m g.rom «data» g.input output_length ≡ true
    → program_present m.cnf m.pc ≡ false
    → number_of (first_given (table_for Nothing g «data» output_length m)) ≡ 5

-- ---- where a fetch window is

-- "shown in whichever of the two lent memories holds it": of memories of 4,096 words, at its own address in the ROM, and of B0 in the data memory, where B0 is at 0200h
pub record WindowPlace (cnf address : ℕ) (rom «data» : Bor (List ℕ)) : Type 0 where
  pub in_rom : in_rom address ≡ true → window_start cnf address rom «data» ≡ (rom.ref_ptr.0, rom.ref_ptr.1 + 2 * address)
  pub in_b0 : in_program_b0 cnf address ≡ true → window_start cnf address rom «data» ≡ («data».ref_ptr.0, «data».ref_ptr.1 + 2 * (address - 0xFF00 + 0x200))

abbrev pub WindowPlaces : Type 0
WindowPlaces = (cnf address : ℕ) (rom «data» : Bor (List ℕ)) → length rom.now ≡ 4096 → length «data».now ≡ 4096 → WindowPlace cnf address rom «data»

-- ---- runs

-- the first k steps are done
unfoldable pub AllDone : Given → ℕ → World → Type 0
AllDone g zero w = Unit {0}
AllDone g (suc k) w = (is_done (step_of g w).answer ≡ true) × AllDone g k (step_of g w).world

-- "stops at the first refused step, and reports the steps done (the refused one not counted) and the last answer"
pub record RunIs (g : Given) (budget : ℕ) (w : World) : Type 0 where
  -- the refused step adds nothing to the run's world and count
  pub refused_after : (k : ℕ) → k < budget → AllDone g k w → is_done (step_of g (world_after g k w)).answer ≡ false
      → run_of g budget w
      ≡ record { world = world_after g k w; steps = k; answer = (step_of g (world_after g k w)).answer }
  pub all_done : AllDone g budget w
      → run_of g budget w
      ≡ record {
        world = world_after g budget w;
        steps = budget;
        answer = checks_of g (world_after g budget w).«data» (length (world_after g budget w).output) (world_after g budget w).m;
      }

-- a run after some steps
abbrev pub continued : ℕ → RunOutcome → RunOutcome
continued steps r = record { world = r.world; steps = steps + r.steps; answer = r.answer }

-- a run of a + b is the run of a and then of b, where the first is not refused; else it is the run of a
pub record RunsAdd (g : Given) (a b : ℕ) (w : World) : Type 0 where
  pub first_done : is_done (run_of g a w).answer ≡ true
      → run_of g (a + b) w ≡ continued a (run_of g b (run_of g a w).world)
  pub first_refused : is_done (run_of g a w).answer ≡ false → run_of g (a + b) w ≡ run_of g a w

-- ---- a pass of an instruction

-- the words that a pass of an instruction reads
abbrev pub words_at : Given → World → Instruction → Words
words_at g w i = words_read (traits_of i) (second_word i g w.«data» w.m) g w.«data» w.m

-- what the rule of an instruction makes of a world, and what it stores
abbrev pub effect_at : Given → World → Instruction → Effect
effect_at g w i = effect_of (traits_of i) i (second_word i g w.«data» w.m) g w.«data» w.m

abbrev pub write_at : Given → World → Instruction → Write
write_at g w i = passed_write (traits_of i) i (second_word i g w.«data» w.m) g w.«data» w.m

-- ---- reads and writes of external RAM (document 02, request 7)

-- how many of these data addresses lie from the first to the last
unfoldable pub lying_in : ℕ → ℕ → List ℕ → ℕ
lying_in first last [] = 0
lying_in first last (address ∷ addresses) = cond (within first last address) 1 0 + lying_in first last addresses

-- "external RAM (0400h to 0FFFh)": how many of these data addresses lie in it
unfoldable pub external_among : List ℕ → ℕ
external_among [] = 0
external_among (address ∷ addresses) = cond (within 0x400 0xFFF address) 1 0 + external_among addresses

-- the data addresses that a page with this access reads: its operand's, once (ruling X1)
unfoldable pub addresses_read : Access → ℕ → List ℕ
addresses_read Access.None address = []
addresses_read Access.Reads address = address ∷ []
addresses_read Access.Writes address = []

-- the data addresses at which a step's store puts a word
unfoldable pub addresses_written : Write → List ℕ
addresses_written Write.Nothing = []
addresses_written (Write.Data address word) = address ∷ []
addresses_written (Write.Sent at word) = []

-- "both equal the counts that the instruction's rule gives, and a refused step adds none"
pub record CountsOfAStep (g : Given) (w : World) : Type 0 where
  -- A page that does not read its word is handed 0, and cannot see it. That every page that is said to read uses its word stands in the list of traits.
  pub unread : (i : Instruction) → addresses_read (traits_of i).access (address_of (traits_of i).operand w.m) ≡ []
      → (words_at g w i).operand ≡ 0
  pub reads_of_page : (i : Instruction) → decoded_at g w.«data» w.m ≡ Built i → (step_of g w).answer ≡ Done
      → (plan_in g w).outside.reads ≡ external_among (addresses_read (traits_of i).access (address_of (traits_of i).operand w.m))
  pub writes_stored : (plan_in g w).outside.writes ≡ external_among (addresses_written (plan_in g w).write)
  pub one_read : (plan_in g w).outside.reads ≤ 1
  pub one_write : (plan_in g w).outside.writes ≤ 1
  pub refused_none : is_done (step_of g w).answer ≡ false → (plan_in g w).outside ≡ none_outside

-- "the word is copied to the next address only where both addresses lie in on-chip blocks": the region that a pass finds is that of its operand's address
-- wherever its store goes by it
abbrev pub StoresByAddress : Type 0
StoresByAddress = (g : Given) (w : World) (i : Instruction) → write_at g w i
    ≡ write_of (effect_at g w i).store (data_region w.m.cnf (address_of (traits_of i).operand w.m)) w.m.cnf (address_of (traits_of i).operand w.m) w.m.output_cursor

-- the plans of the first k steps
unfoldable pub plans_of_steps : Given → ℕ → World → List Plan
plans_of_steps g zero w = []
plans_of_steps g (suc k) w = plan_in g w ∷ plans_of_steps g k (step_of g w).world

-- a run's totals are over the steps that it reports as done, and are no more than these (ruling X5)
pub record CountsOfARun (g : Given) (budget : ℕ) (w : World) : Type 0 where
  pub over_steps_done : plans_of g budget w ≡ plans_of_steps g (run_of g budget w).steps w
  pub reads_within : (outside_of g budget w).reads ≤ (run_of g budget w).steps
  pub writes_within : (outside_of g budget w).writes ≤ (run_of g budget w).steps

-- whatever is kept beside a run: of a + b it is what a keeps and then b, where the first is not refused; else what a keeps
pub record TalliesAdd {S : Type 0} (keep : Plan → S → S) (g : Given) (a b : ℕ) (w : World) (s : S) : Type 0 where
  pub first_done : is_done (run_of g a w).answer ≡ true
      → tallied keep (plans_of g (a + b) w) s ≡ tallied keep (plans_of g b (run_of g a w).world) (tallied keep (plans_of g a w) s)
  pub first_refused : is_done (run_of g a w).answer ≡ false → tallied keep (plans_of g (a + b) w) s ≡ tallied keep (plans_of g a w) s

-- the totals of a split run add
pub record CountsAdd (g : Given) (a b : ℕ) (w : World) : Type 0 where
  pub first_done : is_done (run_of g a w).answer ≡ true → outside_of g (a + b) w ≡ both_outside (outside_of g a w) (outside_of g b (run_of g a w).world)
  pub first_refused : is_done (run_of g a w).answer ≡ false → outside_of g (a + b) w ≡ outside_of g a w

-- ---- a run that a summary is lent to (document 02, request 12)

-- what a plan says of its step: the machine after it, and the word that it writes into the data slice, at a place that is there
pub record PlanOfAStep (g : Given) (w : World) : Type 0 where
  pub machine_after : (step_of g w).world.m ≡ (plan_in g w).m
  pub data_after : (step_of g w).world.«data» ≡ data_after (plan_in g w).write w.«data»
  pub in_the_slice : lying_in 0 4095 (addresses_written (plan_in g w).write) ≡ length (addresses_written (plan_in g w).write)

-- its rows: checks 1 and 2, and then 14
abbrev pub rows_of_run_with : List ℕ → Given → World → List Row
rows_of_run_with summary g w = rows_with summary g w.«data» (length w.output) w.m

-- what a run with a summary gives and leaves beside its outcome: the totals, and the summary
pub record BesideRun : Type 0 where
  pub totals : Outside
  pub summary : List ℕ

abbrev pub beside_run : List ℕ → Given → ℕ → World → BesideRun
beside_run summary g budget w = record { totals = outside_with summary g budget w; summary = summary_with summary g budget w }

-- "14, a summary not of 64 numbers, directly after 2": given exactly when that row's condition holds and no earlier row's does, whatever the budget. A run
-- that is refused so has done no step and counts nothing. With 64 numbers it is the run without a summary, with its history and its totals.
pub record RunWithIs (summary : List ℕ) (g : Given) (budget : ℕ) (w : World) : Type 0 where
  pub given_by : (a : Answer) → is_done a ≡ false → GivenBy a (rows_of_run_with summary g w)
      → (run_with summary g budget w ≡ record { world = w; steps = 0; answer = a })
      × (beside_run summary g budget w ≡ record { totals = none_outside; summary = summary })
  pub unfit_only : (run_with summary g budget w).answer ≡ SummaryUnfit → GivenBy SummaryUnfit (rows_of_run_with summary g w)
  pub of_64 : length summary ≡ 64
      → (run_with summary g budget w ≡ run_of g budget w)
      × ((plans_with summary g budget w ≡ plans_of g budget w) × (outside_with summary g budget w ≡ outside_of g budget w))
  pub answers : is_among (number_of (run_with summary g budget w).answer) (14 ∷ step_numbers) ≡ true

-- "A data page is the 128 words from 128 times DP" (document 01): its first and its last address
abbrev pub page_first : ℕ → ℕ
page_first page = 128 * page

abbrev pub page_last : ℕ → ℕ
page_last page = 128 * page + 127

-- how many words a step wrote into a data page
unfoldable pub written_into : ℕ → Write → ℕ
written_into page write = lying_in (page_first page) (page_last page) (addresses_written write)

-- "a data move's copy counts at its own page" (ruling P2): that of the address behind its operand's, and nowhere if nothing is moved
abbrev pub MovesCounted : Type 0
MovesCounted = (g : Given) (w : World) (i : Instruction) (word page : ℕ) → decoded_at g w.«data» w.m ≡ Built i → (step_of g w).answer ≡ Done
    → (effect_at g w i).store ≡ Left.Move word
    → written_into page (plan_in g w).write
    ≡ cond (move_allowed (data_region w.m.cnf (address_of (traits_of i).operand w.m)) w.m.cnf (address_of (traits_of i).operand w.m))
    (cond (eqb ((address_of (traits_of i).operand w.m + 1) / 128) page) 1 0) 0

-- how many words the steps of a history wrote into it
unfoldable pub stored_into : ℕ → List Plan → ℕ
stored_into page [] = 0
stored_into page (p ∷ plans) = written_into page p.write + stored_into page plans

-- the steps of a history after which OV is 1
unfoldable pub leaving_ov : List Plan → List Plan
leaving_ov [] = []
leaving_ov (p ∷ plans) = cond (eqb p.m.ov 1) (p ∷ leaving_ov plans) (leaving_ov plans)

-- A run adds its history to the summary that it is lent; "Both stop at 65,535".
pub record SummaryAdds (summary : List ℕ) (g : Given) (budget : ℕ) (w : World) : Type 0 where
  pub stores : (page : ℕ) → page < 32
      → get_or (summary_with summary g budget w) page 0 ≡ min 65535 (get_or summary page 0 + stored_into page (plans_with summary g budget w))
  pub clipped : (page : ℕ) → page < 32
      → get_or (summary_with summary g budget w) (32 + page) 0 ≡ min 65535 (get_or summary (32 + page) 0 + stored_into page (leaving_ov (plans_with summary g budget w)))
  pub same_size : length (summary_with summary g budget w) ≡ length summary

-- of a summary whose numbers are of 16 bits, as every summary that is lent
abbrev pub SummariesAdd : Type 0
SummariesAdd = (summary : List ℕ) (g : Given) (budget : ℕ) (w : World) → ((place : ℕ) → get_or summary place 0 ≤ 65535) → SummaryAdds summary g budget w

-- runs that one summary is lent to, the first one first: whatever each is given and begins with
pub record LentRun : Type 0 where
  pub given : Given
  pub budget : ℕ
  pub world : World

unfoldable pub summary_after : List LentRun → List ℕ → List ℕ
summary_after [] summary = summary
summary_after (r ∷ runs) summary = summary_after runs (summary_with summary r.given r.budget r.world)

unfoldable pub history_of : List LentRun → List Plan
history_of [] = []
history_of (r ∷ runs) = plans_of r.given r.budget r.world ++ history_of runs

-- "They agree with the history of steps from the last reset of the summary, counting every word written into the data slice": from 64 zeros, over
-- all runs since that it was lent to
pub record SummaryIsHistory (runs : List LentRun) : Type 0 where
  pub stores : (page : ℕ) → page < 32 → get_or (summary_after runs fresh_summary) page 0 ≡ min 65535 (stored_into page (history_of runs))
  pub clipped : (page : ℕ) → page < 32 → get_or (summary_after runs fresh_summary) (32 + page) 0 ≡ min 65535 (stored_into page (leaving_ov (history_of runs)))
  pub of_64 : length (summary_after runs fresh_summary) ≡ 64

-- "a run split at a step without refusal gives the same summary": the second run goes on with the summary that the first left
pub record SummarySplit (summary : List ℕ) (g : Given) (a b : ℕ) (w : World) : Type 0 where
  pub first_done : is_done (run_with summary g a w).answer ≡ true
      → (run_with summary g (a + b) w ≡ continued a (run_with (summary_with summary g a w) g b (run_with summary g a w).world))
      × (summary_with summary g (a + b) w ≡ summary_with (summary_with summary g a w) g b (run_with summary g a w).world)
  pub first_refused : is_done (run_with summary g a w).answer ≡ false
      → (run_with summary g (a + b) w ≡ run_with summary g a w) × (summary_with summary g (a + b) w ≡ summary_with summary g a w)

-- ---- a run that a dry port stopped (document 02, request 2)

-- what a call is given, with further words behind those of the input
abbrev pub with_further : Given → List ℕ → Given
with_further g further = record { rom = g.rom; input = g.input ++ further }

-- "A run continued so, on its unused budget and with the earlier words in front, equals the run that had all words from the start."
abbrev pub ContinuedWith : List ℕ → Given → ℕ → World → Type 0
ContinuedWith further g budget w = run_of (with_further g further) budget w
    ≡ continued (run_of g budget w).steps (run_of (with_further g further) (budget - (run_of g budget w).steps) (run_of g budget w).world)

-- It holds whatever ended the first run, and also where there are no further words. All words together are at most 1,024: where they are more, check 2 refuses
-- the longer run (ruling D2).
abbrev pub RunContinued : Type 0
RunContinued = (g : Given) (further : List ℕ) (budget : ℕ) (w : World) → length (g.input ++ further) ≤ 1024 → ContinuedWith further g budget w

-- and so for whatever is kept beside it
abbrev pub TallyContinued : (S : Type 0) → (Plan → S → S) → Type 0
TallyContinued S keep = (g : Given) (further : List ℕ) (budget : ℕ) (w : World) (s : S) → length (g.input ++ further) ≤ 1024
    → tallied keep (plans_of (with_further g further) budget w) s
    ≡ tallied keep (plans_of (with_further g further) (budget - (run_of g budget w).steps) (run_of g budget w).world) (tallied keep (plans_of g budget w) s)

-- so that a summary goes on
abbrev pub SummaryContinued : Type 0
SummaryContinued = (summary : List ℕ) (g : Given) (further : List ℕ) (budget : ℕ) (w : World) → length (g.input ++ further) ≤ 1024
    → summary_with summary (with_further g further) budget w
    ≡ summary_with (summary_with summary g budget w) (with_further g further) (budget - (run_with summary g budget w).steps) (run_with summary g budget w).world

-- and the counts of both runs add
abbrev pub CountsContinued : Type 0
CountsContinued = (g : Given) (further : List ℕ) (budget : ℕ) (w : World) → length (g.input ++ further) ≤ 1024
    → outside_of (with_further g further) budget w
    ≡ both_outside (outside_of g budget w) (outside_of (with_further g further) (budget - (run_of g budget w).steps) (run_of g budget w).world)

-- a world in which the next step is an IN from port 0, and the cursor is at the end of the input
pub record AtDryPort (g : Given) (w : World) : Type 0 where
  pub operand : Address
  pub word_is : decoded_at g w.«data» w.m ≡ Built (Transfers (In 0 operand))
  pub cursor_at_end : w.m.input_cursor ≡ length g.input

-- "A dry port must stop the run where it is, with nothing stored, so that the operator can supply the remaining words and go on from the same state"
pub record StoppedDry (g : Given) (budget : ℕ) (w : World) : Type 0 where
  -- some of the budget is left
  pub unused : (run_of g budget w).steps < budget
  -- the world is what the steps done have left, and the IN that was refused is next
  pub steps_done : AllDone g (run_of g budget w).steps w
  pub where_it_is : (run_of g budget w).world ≡ world_after g (run_of g budget w).steps w
  pub at_in : AtDryPort g (run_of g budget w).world
  -- without a further word it is dry again at once, and with one or more that step is done
  pub dry_again : (n : ℕ) → run_of g (suc n) (run_of g budget w).world ≡ record { world = (run_of g budget w).world; steps = 0; answer = InputDry }
  pub goes_on : (word : ℕ) (others : List ℕ) → length (g.input ++ (word ∷ others)) ≤ 1024
      → (step_of (with_further g (word ∷ others)) (run_of g budget w).world).answer ≡ Done

abbrev pub RunStoppedDry : Type 0
RunStoppedDry = (g : Given) (budget : ℕ) (w : World) → (run_of g budget w).answer ≡ InputDry → StoppedDry g budget w

-- ---- a repeated instruction

-- the world with another RPTC
abbrev pub recounted : World → ℕ → World
recounted w n = record { m = with_rptc w.m n; «data» = w.«data»; output = w.output }

-- what was worked: RPTC, MID and PC are left out
abbrev pub work_of : World → World
work_of w = record { m = with_pc (with_mid (with_rptc w.m 0) 0) 0; «data» = w.«data»; output = w.output }

-- a pass of a repeatable instruction
pub record PassWorks (g : Given) (w : World) (i : Instruction) : Type 0 where
  -- "If RPTC is above 0 .. RPTC falls by 1, MID becomes 1 and PC stays"; every other cell is what the rule makes of it
  pub goes_on : (n : ℕ) → w.m.rptc ≡ suc n → (step_of g w).world.m ≡ with_mid (with_rptc (with_pc (effect_at g w i).m w.m.pc) n) 1
  -- "otherwise MID becomes 0 and PC moves past the instruction's words"
  pub ends : w.m.rptc ≡ 0
      → (step_of g w).world.m ≡ with_pc (with_mid (with_rptc (effect_at g w i).m 0) 0) (wrapped_sum w.m.pc (traits_of i).words)
  -- the store is the rule's
  pub stores_data : (step_of g w).world.«data» ≡ data_after (write_at g w i) w.«data»
  pub stores_output : (step_of g w).world.output ≡ output_after (write_at g w i) w.output
  -- whatever RPTC is, the pass is done, and works the same: none only counts
  pub any_count : (n : ℕ) → n ≤ 255 → (step_of g (recounted w n)).answer ≡ Done
  pub same_work : (n : ℕ) → n ≤ 255 → work_of (step_of g (recounted w n)).world ≡ work_of (step_of g w).world

-- "a repeat that works in its first pass and only counts the rest" is ruled out
abbrev pub EveryPassWorks : Type 0
EveryPassWorks = (g : Given) (w : World) (i : Instruction) → decoded_at g w.«data» w.m ≡ Built i → (traits_of i).repeatable ≡ true
    → (step_of g w).answer ≡ Done → PassWorks g w i
