-- Which data pages held a clipped value (document 02, request 12): a summary of the stores into the data slice, kept beside a run that it is lent to.
use Rattle.std.specs.Prelude.{Bool, not, cond, ◌&&◌, List, [], ◌∷◌, ◌++◌, ℕ, ◌+◌, ◌/◌, min, eqb, ltb, length, get_or, set, replicate}
use Rattle.machine.specs.declared.Machine.{Machine}
use Rattle.answers.specs.Answers.{Answer}
use Rattle.answers.specs.Answers.{Done, SummaryUnfit}
use Rattle.answers.specs.Numbers.{is_done}
use Rattle.board.specs.Given.{Given}
use Rattle.steps.specs.declared.Outside.{Outside}
use Rattle.steps.specs.Plan.{Plan}
use Rattle.steps.specs.declared.Write.{Write}
use Rattle.steps.specs.declared.Write.TheVariants.{Nothing, Data, Sent}
use Rattle.steps.specs.Rows.{Row, row, first_given}
use Rattle.steps.specs.World.{World, RunOutcome}
use Rattle.steps.specs.Table.{check_rows}
use Rattle.steps.specs.Step.{run_of}
use Rattle.steps.specs.OperandFound.{none_outside}
use Rattle.steps.specs.Tally.{plans_of, tallied, add_outside}

-- two numbers for each of the 32 data pages
unfoldable pub summary_fits : List ℕ → Bool
summary_fits summary = eqb (length summary) 64

-- "the last reset of the summary": its owner makes it, and the machine's reset does not touch it (ruling P3)
abbrev pub fresh_summary : List ℕ
fresh_summary = replicate 64 0

unfoldable pub summary_answer : List ℕ → Answer
summary_answer summary = cond (summary_fits summary) Done SummaryUnfit

unfoldable pub reset_summary : List ℕ → List ℕ
reset_summary summary = cond (summary_fits summary) fresh_summary summary

-- ---- what a step adds

-- one more at a place: "Both stop at 65,535."
unfoldable pub counted_at : ℕ → List ℕ → List ℕ
counted_at place summary = set summary place (min 65535 (get_or summary place 0 + 1))

-- "the stores made (the first 32 numbers), and those made by steps that leave OV at 1 (the last 32)"
unfoldable pub page_counted : ℕ → ℕ → List ℕ → List ℕ
page_counted page ov summary = cond (eqb ov 1) (counted_at (32 + page) (counted_at page summary)) (counted_at page summary)

-- A word at a place in the data slice, which is of 4,096 words. A summary that is not of 64 numbers is left as it is: what is not lent is an empty slice.
unfoldable pub word_counted : ℕ → ℕ → List ℕ → List ℕ
word_counted address ov summary = cond (summary_fits summary && ltb address 4096) (page_counted (address / 128) ov summary) summary

-- "counting every word written into the data slice": the one store of a step, where it goes there (ruling P2)
unfoldable pub store_counted : Write → ℕ → List ℕ → List ℕ
store_counted Nothing ov summary = summary
store_counted (Data address word) ov summary = word_counted address ov summary
store_counted (Sent at word) ov summary = summary

-- OV is that of the machine after the step, whether this step set it or not (ruling P1)
unfoldable pub add_store : Plan → List ℕ → List ℕ
add_store p summary = store_counted p.write p.m.ov summary

-- ---- a run that a summary is lent to

-- "14, a summary not of 64 numbers, directly after 2", and with budget 0 too (ruling P3)
unfoldable pub summary_rows : List ℕ → List Row
summary_rows summary = row "14" SummaryUnfit (not (summary_fits summary)) ∷ []

unfoldable pub rows_with : List ℕ → Given → List ℕ → ℕ → Machine → List Row
rows_with summary g «data» output_length m = check_rows g «data» output_length m ++ summary_rows summary

unfoldable pub checks_with : List ℕ → Given → List ℕ → ℕ → Machine → Answer
checks_with summary g «data» output_length m = first_given (rows_with summary g «data» output_length m)

-- whether the run begins
abbrev pub begins_with : List ℕ → Given → World → Bool
begins_with summary g w = is_done (checks_with summary g w.«data» (length w.output) w.m)

unfoldable pub run_with : List ℕ → Given → ℕ → World → RunOutcome
run_with summary g budget w =
    cond (begins_with summary g w) (run_of g budget w)
    (record { world = w; steps = 0; answer = checks_with summary g w.«data» (length w.output) w.m })

-- its history, its totals, and the summary after it
unfoldable pub plans_with : List ℕ → Given → ℕ → World → List Plan
plans_with summary g budget w = cond (begins_with summary g w) (plans_of g budget w) []

unfoldable pub outside_with : List ℕ → Given → ℕ → World → Outside
outside_with summary g budget w = tallied add_outside (plans_with summary g budget w) none_outside

unfoldable pub summary_with : List ℕ → Given → ℕ → World → List ℕ
summary_with summary g budget w = tallied add_store (plans_with summary g budget w) summary
