-- Not routine: the definition makes the word bit by bit as its page prints it; a law says that a field's bits are the sum that the code makes.
use Rattle.encodings.specs.Encode.{word_of, transfer_fields}
use Rattle.encoder.specs.EncodeLaws.{by_case, of_address, of_shifted}
use Rattle.encoder.proofs.transfer_word.Goals as goal

pub returns-in-Dmov : goal.returns-in-Dmov
unfolding word_of transfer_fields
returns-in-Dmov c = by_case (λ y. word_of (transfer_fields y)) c.in-Dmov.is (of_address 0x56 _ c.addressed.ensures)

pub returns-in-In : goal.returns-in-In
unfolding word_of transfer_fields
returns-in-In c = by_case (λ y. word_of (transfer_fields y)) c.in-In.is (of_shifted 8 _ _ c.addressed-in-In.ensures)

pub returns-in-Out : goal.returns-in-Out
unfolding word_of transfer_fields
returns-in-Out c = by_case (λ y. word_of (transfer_fields y)) c.in-Out.is (of_shifted 14 _ _ c.addressed-in-Out.ensures)
