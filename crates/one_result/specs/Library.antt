-- One possible result of each exported function: the library for C.
use Rattle.c_cells.proofs.checking.length_answer.Reads as LengthAnswer
use Rattle.c_cells.proofs.checking.cells_answer.Reads as CellsAnswer
use Rattle.c_cells.proofs.reading.machine_of.Reads as MachineOf
use Rattle.c_cells.proofs.reading.checked_machine.Reads as CheckedMachine
use Rattle.c_cells.proofs.storing.put_cells.Reads as PutCells
use Rattle.answers.proofs.number_of.Reads as NumberOf
use Rattle.c_cell_calls.proofs.put_refusal.Reads as PutRefusal
use Rattle.c_cell_calls.proofs.reset_cells.Reads as ResetCells
use Rattle.c_cell_calls.proofs.put_step.Reads as PutStep
use Rattle.c_cell_calls.proofs.put_run.Reads as PutRun
use Rattle.c_results.proofs.results_fit.Reads as ResultsFit
use Rattle.c_results.proofs.put_results.Reads as PutResults
use Rattle.c_files.proofs.read_counts.Reads as ReadCounts
use Rattle.c_files.proofs.set_up_slices.Reads as SetUpSlices
use Rattle.c_file_writing.proofs.write_counted.Reads as WriteCounted
use Rattle.c_words_sent.proofs.count_sent.Reads as CountSent
use Rattle.c_window.proofs.window.place_window.Reads as PlaceWindow
use Rattle.desktop.proofs.files.crowmitten_read.Reads as CrowmittenRead
use Rattle.desktop.proofs.files.crowmitten_set_up.Reads as CrowmittenSetUp
use Rattle.desktop.proofs.files.crowmitten_write.Reads as CrowmittenWrite
use Rattle.desktop.proofs.running.crowmitten_reset.Reads as CrowmittenReset
use Rattle.desktop.proofs.running.crowmitten_step.Reads as CrowmittenStep
use Rattle.desktop.proofs.running.crowmitten_run.Reads as CrowmittenRun
use Rattle.desktop.proofs.running.crowmitten_run_with.Reads as CrowmittenRunWith
use Rattle.desktop.proofs.sent.crowmitten_words_sent.Reads as CrowmittenWordsSent
use Rattle.desktop.proofs.window.crowmitten_window.Reads as CrowmittenWindow
use Rattle.runfile_setting_up.specs.SetUp.{lent}
use Rattle.c_words_sent.specs.Sent.{counted}
use Rattle.c_window.specs.Shown.{placed}
use Rattle.desktop.specs.Calls.{Called, RunCalled, RunWithCalled, called}
use Rattle.std.specs.Prelude.{List, ℕ}
use Rattle.one_result.specs.One.{OneOutcome, OneResult, pair, same, same_pair}

-- what a call of `run` and of `run_with` shows
abbrev run_shown : ℕ → Called → RunCalled
run_shown steps after = record { steps = steps; after = after }

abbrev run_with_shown : List ℕ → Called → RunWithCalled
run_with_shown results after = record { results = results; after = after }

pub length_answer : OneResult LengthAnswer.Post
length_answer κs a r r' e e' p q = same p q

pub cells_answer : OneResult CellsAnswer.Post
cells_answer κs a r r' e e' p q = same p q

pub machine_of : OneResult MachineOf.Post
machine_of κs a r r' e e' p q = same p q

pub checked_machine : OneResult CheckedMachine.Post
checked_machine κs a r r' e e' p q = same p q

pub put_cells : OneOutcome PutCells.Post (λ r e. e.0.now)
put_cells κs a r r' e e' p q = same p q

pub number_of : OneResult NumberOf.Post
number_of κs a r r' e e' p q = same p q

pub put_refusal : OneOutcome PutRefusal.Post (λ r e. pair r e.1.0.now)
put_refusal κs a r r' e e' p q = same_pair (same p.0 q.0) (same p.1 q.1)

pub reset_cells : OneOutcome ResetCells.Post (λ r e. pair r e.0.now)
reset_cells κs a r r' e e' p q = same_pair (same p.0 q.0) (same p.1 q.1)

pub put_step : OneOutcome PutStep.Post (λ r e. pair r e.0.now)
put_step κs a r r' e e' p q = same_pair (same p.0 q.0) (same p.1 q.1)

pub put_run : OneOutcome PutRun.Post (λ r e. pair r (pair e.0.now e.1.1.1.1.0.now))
put_run κs a r r' e e' p q = same_pair (same p.0 q.0) (same_pair (same p.1.0 q.1.0) (same p.1.1 q.1.1))

pub results_fit : OneResult ResultsFit.Post
results_fit κs a r r' e e' p q = same p q

pub put_results : OneOutcome PutResults.Post (λ r e. e.0.now)
put_results κs a r r' e e' p q = same p q

pub read_counts : OneOutcome ReadCounts.Post (λ r e. pair r (pair e.1.0.now e.1.1.0.now))
read_counts κs a r r' e e' p q = same_pair (same p.0 q.0) (same_pair (same p.1.0 q.1.0) (same p.1.1 q.1.1))

pub set_up_slices : OneOutcome SetUpSlices.Post (λ r e. pair r (lent e.1.0.now e.1.1.0.now e.1.1.1.0.now))
set_up_slices κs a r r' e e' p q = same_pair (same p.0 q.0) (same p.1 q.1)

pub write_counted : OneOutcome WriteCounted.Post (λ r e. pair r (pair e.1.1.1.1.0.now e.1.1.1.1.1.0.now))
write_counted κs a r r' e e' p q = same_pair (same p.0 q.0) (same_pair (same p.1.0 q.1.0) (same p.1.1 q.1.1))

pub count_sent : OneOutcome CountSent.Post (λ r e. counted r e.1.1.0.now)
count_sent κs a r r' e e' p q = same p q

pub place_window : OneOutcome PlaceWindow.Post (λ r e. placed r e.1.1.1.1.0.now e.1.1.1.1.1.0.now e.1.1.1.1.1.1.0.now)
place_window κs a r r' e e' p q = same p q

pub crowmitten_read : OneOutcome CrowmittenRead.Post (λ r e. pair r (pair e.1.0.now e.1.1.0.now))
crowmitten_read κs a r r' e e' p q = same_pair (same p.0 q.0) (same_pair (same p.1.0 q.1.0) (same p.1.1 q.1.1))

pub crowmitten_set_up : OneOutcome CrowmittenSetUp.Post (λ r e. pair r (lent e.1.0.now e.1.1.0.now e.1.1.1.0.now))
crowmitten_set_up κs a r r' e e' p q = same_pair (same p.0 q.0) (same p.1 q.1)

pub crowmitten_write : OneOutcome CrowmittenWrite.Post (λ r e. pair r (pair e.1.1.1.1.0.now e.1.1.1.1.1.0.now))
crowmitten_write κs a r r' e e' p q = same_pair (same p.0 q.0) (same_pair (same p.1.0 q.1.0) (same p.1.1 q.1.1))

pub crowmitten_reset : OneOutcome CrowmittenReset.Post (λ r e. pair r e.0.now)
crowmitten_reset κs a r r' e e' p q = same_pair (same p.0 q.0) (same p.1 q.1)

pub crowmitten_step : OneOutcome CrowmittenStep.Post (λ r e. called r e.0.now e.1.1.0.now e.1.1.1.1.0.now)
crowmitten_step κs a r r' e e' p q = same p q

pub crowmitten_run : OneOutcome CrowmittenRun.Post (λ r e. run_shown e.1.1.1.1.1.1.0.now (called r e.0.now e.1.1.0.now e.1.1.1.1.0.now))
crowmitten_run κs a r r' e e' p q = same p q

pub crowmitten_run_with : OneOutcome CrowmittenRunWith.Post (λ r e. run_with_shown e.1.1.1.1.1.1.0.now (called r e.0.now e.1.1.0.now e.1.1.1.1.0.now))
crowmitten_run_with κs a r r' e e' p q = same p q

pub crowmitten_words_sent : OneOutcome CrowmittenWordsSent.Post (λ r e. counted r e.1.1.0.now)
crowmitten_words_sent κs a r r' e e' p q = same p q

pub crowmitten_window : OneOutcome CrowmittenWindow.Post (λ r e. placed r e.1.1.1.1.0.now e.1.1.1.1.1.0.now e.1.1.1.1.1.1.0.now)
crowmitten_window κs a r r' e e' p q = same p q
