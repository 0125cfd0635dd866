-- Not routine: the definition makes the word bit by bit as its page prints it; a law says that a field's bits are the sum that the code makes.
use mathlib.Core.Path.{refl, sym}
use Rattle.encodings.specs.Encode.{word_of, multiplier_fields}
use Rattle.encodings.specs.Bits.{field_after_lem}
use Rattle.encoder.specs.EncodeLaws.{by_case, of_address}
use Rattle.encoder.proofs.multiplier_word.Goals as goal

pub returns-in-Lt : goal.returns-in-Lt
unfolding word_of multiplier_fields
returns-in-Lt c = by_case (λ y. word_of (multiplier_fields y)) c.in-Lt.is (of_address 0x3C _ c.addressed.ensures)

pub returns-in-Lta : goal.returns-in-Lta
unfolding word_of multiplier_fields
returns-in-Lta c = by_case (λ y. word_of (multiplier_fields y)) c.in-Lta.is (of_address 0x3D _ c.addressed-in-Lta.ensures)

pub returns-in-Ltp : goal.returns-in-Ltp
unfolding word_of multiplier_fields
returns-in-Ltp c = by_case (λ y. word_of (multiplier_fields y)) c.in-Ltp.is (of_address 0x3E _ c.addressed-in-Ltp.ensures)

pub returns-in-Ltd : goal.returns-in-Ltd
unfolding word_of multiplier_fields
returns-in-Ltd c = by_case (λ y. word_of (multiplier_fields y)) c.in-Ltd.is (of_address 0x3F _ c.addressed-in-Ltd.ensures)

pub returns-in-Lts : goal.returns-in-Lts
unfolding word_of multiplier_fields
returns-in-Lts c = by_case (λ y. word_of (multiplier_fields y)) c.in-Lts.is (of_address 0x5B _ c.addressed-in-Lts.ensures)

pub returns-in-Mpy : goal.returns-in-Mpy
unfolding word_of multiplier_fields
returns-in-Mpy c = by_case (λ y. word_of (multiplier_fields y)) c.in-Mpy.is (of_address 0x38 _ c.addressed-in-Mpy.ensures)

pub returns-in-Mpya : goal.returns-in-Mpya
unfolding word_of multiplier_fields
returns-in-Mpya c = by_case (λ y. word_of (multiplier_fields y)) c.in-Mpya.is (of_address 0x3A _ c.addressed-in-Mpya.ensures)

pub returns-in-Mpys : goal.returns-in-Mpys
unfolding word_of multiplier_fields
returns-in-Mpys c = by_case (λ y. word_of (multiplier_fields y)) c.in-Mpys.is (of_address 0x3B _ c.addressed-in-Mpys.ensures)

pub returns-in-Mpyk : goal.returns-in-Mpyk
unfolding word_of multiplier_fields
returns-in-Mpyk c = by_case (λ y. word_of (multiplier_fields y)) c.in-Mpyk.is (sym (field_after_lem _ 5 13))

pub returns-in-Sqra : goal.returns-in-Sqra
unfolding word_of multiplier_fields
returns-in-Sqra c = by_case (λ y. word_of (multiplier_fields y)) c.in-Sqra.is (of_address 0x39 _ c.addressed-in-Sqra.ensures)

pub returns-in-Sqrs : goal.returns-in-Sqrs
unfolding word_of multiplier_fields
returns-in-Sqrs c = by_case (λ y. word_of (multiplier_fields y)) c.in-Sqrs.is (of_address 0x5A _ c.addressed-in-Sqrs.ensures)

pub returns-in-Mac : goal.returns-in-Mac
unfolding word_of multiplier_fields
returns-in-Mac c = by_case (λ y. word_of (multiplier_fields y)) c.in-Mac.is (of_address 0x5D _ c.addressed-in-Mac.ensures)

pub returns-in-Macd : goal.returns-in-Macd
unfolding word_of multiplier_fields
returns-in-Macd c = by_case (λ y. word_of (multiplier_fields y)) c.in-Macd.is (of_address 0x5C _ c.addressed-in-Macd.ensures)

pub returns-in-Pac : goal.returns-in-Pac
unfolding word_of multiplier_fields
returns-in-Pac c = by_case (λ y. word_of (multiplier_fields y)) c.in-Pac.is (refl)

pub returns-in-Apac : goal.returns-in-Apac
unfolding word_of multiplier_fields
returns-in-Apac c = by_case (λ y. word_of (multiplier_fields y)) c.in-Apac.is (refl)

pub returns-in-Spac : goal.returns-in-Spac
unfolding word_of multiplier_fields
returns-in-Spac c = by_case (λ y. word_of (multiplier_fields y)) c.in-Spac.is (refl)

pub returns-in-Spl : goal.returns-in-Spl
unfolding word_of multiplier_fields
returns-in-Spl c = by_case (λ y. word_of (multiplier_fields y)) c.in-Spl.is (of_address 0x7C _ c.addressed-in-Spl.ensures)

pub returns-in-Sph : goal.returns-in-Sph
unfolding word_of multiplier_fields
returns-in-Sph c = by_case (λ y. word_of (multiplier_fields y)) c.in-Sph.is (of_address 0x7D _ c.addressed-in-Sph.ensures)

pub returns-in-Spm : goal.returns-in-Spm
unfolding word_of multiplier_fields
returns-in-Spm c = by_case (λ y. word_of (multiplier_fields y)) c.in-Spm.is (rw c.from.ensures (sym (field_after_lem c.in-Spm.k 0x3382 2)))
