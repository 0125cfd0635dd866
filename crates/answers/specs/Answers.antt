-- An answer: done, or one of the refusals. Each has its name in document 01's words here, as the definitions say it.
use Rattle.std.specs.Prelude.{Ok, Err}
use Rattle.std.specs.Prelude.{Result}
use Rattle.answers.specs.declared.Refusal.{Refusal}

abbrev pub Answer : Type 0
Answer = Result (Unit {0}) Refusal

abbrev pub Done : Answer
Done = Ok tt

abbrev pub CellOutOfRange : Answer
CellOutOfRange = Err Refusal.CellOutOfRange

abbrev pub SlicesUnfit : Answer
SlicesUnfit = Err Refusal.SlicesUnfit

abbrev pub NoEncoding : Answer
NoEncoding = Err Refusal.NoEncoding

abbrev pub NotBuilt : Answer
NotBuilt = Err Refusal.NotBuilt

abbrev pub ProgramAbsent : Answer
ProgramAbsent = Err Refusal.ProgramAbsent

abbrev pub DataAbsent : Answer
DataAbsent = Err Refusal.DataAbsent

abbrev pub NotRepeatable : Answer
NotRepeatable = Err Refusal.NotRepeatable

abbrev pub WrongPort : Answer
WrongPort = Err Refusal.WrongPort

abbrev pub OutputFull : Answer
OutputFull = Err Refusal.OutputFull

abbrev pub InputDry : Answer
InputDry = Err Refusal.InputDry

abbrev pub SummaryUnfit : Answer
SummaryUnfit = Err Refusal.SummaryUnfit

abbrev pub FileShort : Answer
FileShort = Err Refusal.FileShort

abbrev pub FileVersion : Answer
FileVersion = Err Refusal.FileVersion

abbrev pub FileRules : Answer
FileRules = Err Refusal.FileRules

abbrev pub FileNoRoom : Answer
FileNoRoom = Err Refusal.FileNoRoom

-- what a call gives that answers so: a value where it is done, and otherwise the refusal
abbrev pub where_done : {T : Type 0} → Answer → T → Result T Refusal
where_done (Ok _) value = Ok value
where_done (Err refusal) value = Err refusal
