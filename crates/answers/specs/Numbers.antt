-- The number of each answer (document 01, "Numbers that come back"), with the table's words for when it is given.
use Rattle.std.specs.Prelude.{Bool, true, false, ℕ, Ok, Err}
use Rattle.answers.specs.Answers.{Answer}
use Rattle.answers.specs.declared.Refusal.{Refusal}
use Rattle.answers.specs.declared.Refusal.TheVariants.{CellOutOfRange, SlicesUnfit, NoEncoding, NotBuilt, ProgramAbsent, DataAbsent, NotRepeatable, WrongPort, OutputFull, InputDry, SummaryUnfit, FileShort, FileVersion, FileRules, FileNoRoom}

abbrev pub refusal_number : Refusal → ℕ
-- "a cell is outside its stated range"
refusal_number CellOutOfRange = 1
-- "program or data slice is not 4,096 words, a port slice is over 1,024, a cursor is past its slice, or at set-up from a file the input slice is not of its count"
refusal_number SlicesUnfit = 2
-- "the word is in no encoding of section 4.3 (indirect 011 included)"
refusal_number NoEncoding = 3
-- "a published instruction not in the base"
refusal_number NotBuilt = 4
-- "program address absent"
refusal_number ProgramAbsent = 5
-- "data address read or written is absent"
refusal_number DataAbsent = 6
-- "RPTC above 0 and its page says not repeatable"
refusal_number NotRepeatable = 7
-- "IN from a port other than 0, OUT to one other than 1"
refusal_number WrongPort = 9
-- "OUT with the output slice full"
refusal_number OutputFull = 10
-- "input port dry" (document 02, request 2)
refusal_number InputDry = 11
-- "a summary not of 64 numbers" (document 02, request 12)
refusal_number SummaryUnfit = 14
-- "run file shorter than 16 bytes"
refusal_number FileShort = 20
-- "version not 1"
refusal_number FileVersion = 21
-- "counts, offsets or length against the rules"
refusal_number FileRules = 22
-- "the file does not fit the lent bytes"
refusal_number FileNoRoom = 23

abbrev pub number_of : Answer → ℕ
-- "step or run done"
number_of (Ok _) = 0
number_of (Err refusal) = refusal_number refusal

-- every other answer is a refusal
abbrev pub is_done : Answer → Bool
is_done (Ok _) = true
is_done (Err _) = false
