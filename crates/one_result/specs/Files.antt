-- One possible result of each exported function: run files and their line.
use Rattle.runfile.proofs.numbers.word_at.Reads as WordAt
use Rattle.runfile.proofs.numbers.numbers_of.Reads as NumbersOf
use Rattle.runfile.proofs.numbers.counts_kept.Reads as CountsKept
use Rattle.runfile.proofs.numbers.rules_kept.Reads as RulesKept
use Rattle.runfile.proofs.reading.read.Reads as Read
use Rattle.runfile.proofs.reading.read_answer.Reads as ReadAnswer
use Rattle.runfile.proofs.reading.head_of.Reads as HeadOf
use Rattle.runfile.proofs.reading.HeadFromEightNumbers.from.Reads as HeadFromNumbers
use Rattle.runfile_setting_up.proofs.set_up_answer.Reads as SetUpAnswer
use Rattle.runfile_setting_up.proofs.set_up.Reads as SetUp
use Rattle.runfile_writing.proofs.file_length.Reads as FileLength
use Rattle.runfile_writing.proofs.write_file.Reads as WriteFile
use Rattle.line_digits.proofs.digit.Reads as Digit
use Rattle.line_digits.proofs.decimal_length.Reads as DecimalLength
use Rattle.line_fields.proofs.fitting.Fields.fit_line.Reads as FitLine
use Rattle.line_fields.proofs.fitting.fit_number.Reads as FitNumber
use Rattle.line.proofs.run_line.Reads as RunLine
use Rattle.line.proofs.refused_line.Reads as RefusedLine
use Rattle.replaying.proofs.replayed.Reads as Replayed
use Rattle.one_result.specs.One.{OneOutcome, OneResult, pair, same, same_pair}

pub word_at : OneResult WordAt.Post
word_at κs a r r' e e' p q = same p q

pub numbers_of : OneResult NumbersOf.Post
numbers_of κs a r r' e e' p q = same p q

pub counts_kept : OneResult CountsKept.Post
counts_kept κs a r r' e e' p q = same p q

pub rules_kept : OneResult RulesKept.Post
rules_kept κs a r r' e e' p q = same p q

pub read : OneResult Read.Post
read κs a r r' e e' p q = same p q

pub read_answer : OneResult ReadAnswer.Post
read_answer κs a r r' e e' p q = same p q

pub head_of : OneResult HeadOf.Post
head_of κs a r r' e e' p q = same p q

pub head_from_numbers : OneResult HeadFromNumbers.Post
head_from_numbers κs a r r' e e' p q = same p q

pub set_up_answer : OneResult SetUpAnswer.Post
set_up_answer κs a r r' e e' p q = same p q

pub set_up : OneOutcome SetUp.Post (λ r e. pair r (pair e.1.0.now (pair e.1.1.0.now e.1.1.1.0.now)))
set_up κs a r r' e e' p q = same_pair (same p.0 q.0) (same_pair (same p.1.0 q.1.0) (same_pair (same p.1.1.0 q.1.1.0) (same p.1.1.1 q.1.1.1)))

pub file_length : OneResult FileLength.Post
file_length κs a r r' e e' p q = same p q

pub write_file : OneOutcome WriteFile.Post (λ r e. pair r e.1.1.1.1.0.now)
write_file κs a r r' e e' p q = same_pair (same p.0 q.0) (same p.1 q.1)

pub digit : OneResult Digit.Post
digit κs a r r' e e' p q = same p q

pub decimal_length : OneResult DecimalLength.Post
decimal_length κs a r r' e e' p q = same p q

pub fit_line : OneOutcome FitLine.Post (λ r e. pair r e.1.0.now)
fit_line κs a r r' e e' p q = same_pair (same p.0 q.0) (same p.1 q.1)

pub fit_number : OneOutcome FitNumber.Post (λ r e. pair r e.0.now)
fit_number κs a r r' e e' p q = same_pair (same p.0 q.0) (same p.1 q.1)

pub run_line : OneOutcome RunLine.Post (λ r e. pair r e.1.1.1.1.0.now)
run_line κs a r r' e e' p q = same_pair (same p.0 q.0) (same p.1 q.1)

pub refused_line : OneOutcome RefusedLine.Post (λ r e. pair r e.1.0.now)
refused_line κs a r r' e e' p q = same_pair (same p.0 q.0) (same p.1 q.1)

pub replayed : OneOutcome Replayed.Post (λ r e. pair r e.1.1.0.now)
replayed κs a r r' e e' p q = same_pair (same p.0 q.0) (same p.1 q.1)
