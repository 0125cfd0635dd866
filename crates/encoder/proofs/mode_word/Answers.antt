-- Not routine: the definition makes the word bit by bit as its page prints it; a law says that a field's bits are the sum that the code makes.
use mathlib.Core.Path.{refl, sym, ◌∙◌}
use Rattle.encodings.specs.Encode.{word_of, mode_fields}
use Rattle.encodings.specs.Bits.{field_after_lem}
use Rattle.encoder.specs.EncodeLaws.{by_case, of_address}
use Rattle.encoder.proofs.mode_word.Goals as goal

pub returns-in-Sovm : goal.returns-in-Sovm
unfolding word_of mode_fields
returns-in-Sovm c = by_case (λ y. word_of (mode_fields y)) c.in-Sovm.is (refl)

pub returns-in-Rovm : goal.returns-in-Rovm
unfolding word_of mode_fields
returns-in-Rovm c = by_case (λ y. word_of (mode_fields y)) c.in-Rovm.is (refl)

pub returns-in-Ssxm : goal.returns-in-Ssxm
unfolding word_of mode_fields
returns-in-Ssxm c = by_case (λ y. word_of (mode_fields y)) c.in-Ssxm.is (refl)

pub returns-in-Rsxm : goal.returns-in-Rsxm
unfolding word_of mode_fields
returns-in-Rsxm c = by_case (λ y. word_of (mode_fields y)) c.in-Rsxm.is (refl)

pub returns-in-Cnfd : goal.returns-in-Cnfd
unfolding word_of mode_fields
returns-in-Cnfd c = by_case (λ y. word_of (mode_fields y)) c.in-Cnfd.is (refl)

pub returns-in-Cnfp : goal.returns-in-Cnfp
unfolding word_of mode_fields
returns-in-Cnfp c = by_case (λ y. word_of (mode_fields y)) c.in-Cnfp.is (refl)

pub returns-in-Rpt : goal.returns-in-Rpt
unfolding word_of mode_fields
returns-in-Rpt c = by_case (λ y. word_of (mode_fields y)) c.in-Rpt.is (of_address 0x4B _ c.addressed.ensures)

pub returns-in-Rptk : goal.returns-in-Rptk
unfolding word_of mode_fields
returns-in-Rptk c = by_case (λ y. word_of (mode_fields y)) c.in-Rptk.is (c.constant.ensures ∙ sym (field_after_lem _ 0xCB 8))

pub returns-in-Push : goal.returns-in-Push
unfolding word_of mode_fields
returns-in-Push c = by_case (λ y. word_of (mode_fields y)) c.in-Push.is (refl)

pub returns-in-Pop : goal.returns-in-Pop
unfolding word_of mode_fields
returns-in-Pop c = by_case (λ y. word_of (mode_fields y)) c.in-Pop.is (refl)
