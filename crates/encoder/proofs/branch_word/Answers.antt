-- Not routine: the definition makes the word bit by bit as its page prints it; a law says that a field's bits are the sum that the code makes.
use mathlib.Core.Path.{refl, sym, ◌∙◌}
use Rattle.encodings.specs.Encode.{word_of, branch_fields}
use Rattle.encodings.specs.Bits.{field_after_lem}
use Rattle.encoder.specs.EncodeLaws.{by_case}
use Rattle.encoder.proofs.branch_word.Goals as goal

pub returns-in-B : goal.returns-in-B
unfolding word_of branch_fields
returns-in-B c = by_case (λ y. word_of (branch_fields y)) c.in-B.is (c.branching.ensures ∙ sym (field_after_lem _ 0x1ff 7))

pub returns-in-Banz : goal.returns-in-Banz
unfolding word_of branch_fields
returns-in-Banz c = by_case (λ y. word_of (branch_fields y)) c.in-Banz.is (c.branching-in-Banz.ensures ∙ sym (field_after_lem _ 0x1f7 7))

pub returns-in-Bz : goal.returns-in-Bz
unfolding word_of branch_fields
returns-in-Bz c = by_case (λ y. word_of (branch_fields y)) c.in-Bz.is (c.branching-in-Bz.ensures ∙ sym (field_after_lem _ 0x1ed 7))

pub returns-in-Bnz : goal.returns-in-Bnz
unfolding word_of branch_fields
returns-in-Bnz c = by_case (λ y. word_of (branch_fields y)) c.in-Bnz.is (c.branching-in-Bnz.ensures ∙ sym (field_after_lem _ 0x1eb 7))

pub returns-in-Bgz : goal.returns-in-Bgz
unfolding word_of branch_fields
returns-in-Bgz c = by_case (λ y. word_of (branch_fields y)) c.in-Bgz.is (c.branching-in-Bgz.ensures ∙ sym (field_after_lem _ 0x1e3 7))

pub returns-in-Bgez : goal.returns-in-Bgez
unfolding word_of branch_fields
returns-in-Bgez c = by_case (λ y. word_of (branch_fields y)) c.in-Bgez.is (c.branching-in-Bgez.ensures ∙ sym (field_after_lem _ 0x1e9 7))

pub returns-in-Blz : goal.returns-in-Blz
unfolding word_of branch_fields
returns-in-Blz c = by_case (λ y. word_of (branch_fields y)) c.in-Blz.is (c.branching-in-Blz.ensures ∙ sym (field_after_lem _ 0x1e7 7))

pub returns-in-Blez : goal.returns-in-Blez
unfolding word_of branch_fields
returns-in-Blez c = by_case (λ y. word_of (branch_fields y)) c.in-Blez.is (c.branching-in-Blez.ensures ∙ sym (field_after_lem _ 0x1e5 7))

pub returns-in-Bv : goal.returns-in-Bv
unfolding word_of branch_fields
returns-in-Bv c = by_case (λ y. word_of (branch_fields y)) c.in-Bv.is (c.branching-in-Bv.ensures ∙ sym (field_after_lem _ 0x1e1 7))

pub returns-in-Bnv : goal.returns-in-Bnv
unfolding word_of branch_fields
returns-in-Bnv c = by_case (λ y. word_of (branch_fields y)) c.in-Bnv.is (c.branching-in-Bnv.ensures ∙ sym (field_after_lem _ 0x1ef 7))

pub returns-in-Call : goal.returns-in-Call
unfolding word_of branch_fields
returns-in-Call c = by_case (λ y. word_of (branch_fields y)) c.in-Call.is (c.branching-in-Call.ensures ∙ sym (field_after_lem _ 0x1fd 7))

pub returns-in-Ret : goal.returns-in-Ret
unfolding word_of branch_fields
returns-in-Ret c = by_case (λ y. word_of (branch_fields y)) c.in-Ret.is (refl)
