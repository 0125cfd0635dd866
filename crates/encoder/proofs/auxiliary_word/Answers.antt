-- Not routine: the definition makes the word bit by bit as its page prints it; a law says that a field's bits are the sum that the code makes.
use mathlib.Core.Path.{sym, ◌∙◌}
use Rattle.encodings.specs.Encode.{word_of, auxiliary_fields}
use Rattle.encodings.specs.Bits.{field_after_lem}
use Rattle.encoder.specs.EncodeLaws.{by_case, of_address, of_selected, two_fields}
use Rattle.encoder.proofs.auxiliary_word.Goals as goal

pub returns-in-Lar : goal.returns-in-Lar
unfolding word_of auxiliary_fields
returns-in-Lar c = by_case (λ y. word_of (auxiliary_fields y)) c.in-Lar.is (of_selected 6 _ _ c.addressed.ensures)

pub returns-in-Sar : goal.returns-in-Sar
unfolding word_of auxiliary_fields
returns-in-Sar c = by_case (λ y. word_of (auxiliary_fields y)) c.in-Sar.is (of_selected 14 _ _ c.addressed-in-Sar.ensures)

pub returns-in-Lark : goal.returns-in-Lark
unfolding word_of auxiliary_fields
returns-in-Lark c = by_case (λ y. word_of (auxiliary_fields y)) c.in-Lark.is (c.constant.ensures ∙ sym (two_fields _ 3 _ 8 24))

pub returns-in-Mar : goal.returns-in-Mar
unfolding word_of auxiliary_fields
returns-in-Mar c = by_case (λ y. word_of (auxiliary_fields y)) c.in-Mar.is (of_address 0x55 _ c.addressed-in-Mar.ensures)

pub returns-in-Adrk : goal.returns-in-Adrk
unfolding word_of auxiliary_fields
returns-in-Adrk c = by_case (λ y. word_of (auxiliary_fields y)) c.in-Adrk.is (c.constant-in-Adrk.ensures ∙ sym (field_after_lem _ 0x7E 8))

pub returns-in-Sbrk : goal.returns-in-Sbrk
unfolding word_of auxiliary_fields
returns-in-Sbrk c = by_case (λ y. word_of (auxiliary_fields y)) c.in-Sbrk.is (c.constant-in-Sbrk.ensures ∙ sym (field_after_lem _ 0x7F 8))

pub returns-in-Ldp : goal.returns-in-Ldp
unfolding word_of auxiliary_fields
returns-in-Ldp c = by_case (λ y. word_of (auxiliary_fields y)) c.in-Ldp.is (of_address 0x52 _ c.addressed-in-Ldp.ensures)

pub returns-in-Ldpk : goal.returns-in-Ldpk
unfolding word_of auxiliary_fields
returns-in-Ldpk c = by_case (λ y. word_of (auxiliary_fields y)) c.in-Ldpk.is (sym (field_after_lem _ 100 9))
