-- Not routine: the definition makes the word bit by bit as its page prints it; a law says that a field's bits are the sum that the code makes.
use Rattle.std.proofs.Common.{◌≡◌, ℕ, ◌+◌, ◌*◌, ◌%◌, refl, sym, ◌∙◌, arith}
use Rattle.encodings.specs.Encode.{word_of, accumulator_fields}
use Rattle.encodings.specs.Bits.{field_after_lem}
use Rattle.encoder.specs.EncodeLaws.{by_case, of_address, of_selected, of_shifted}
use Rattle.encoder.proofs.accumulator_word.Goals as goal

-- of_shifted writes the upper bits out, and ADD has 0 there
zero_more : (n : ℕ) → 0 * 16 + n ≡ n
zero_more n = omega arith

pub returns-in-Add : goal.returns-in-Add
unfolding word_of accumulator_fields
returns-in-Add c = by_case (λ y. word_of (accumulator_fields y)) c.in-Add.is (of_shifted 0 c.in-Add.s c.in-Add.a (rw (zero_more (c.in-Add.s % 16)) c.addressed.ensures))

pub returns-in-Sub : goal.returns-in-Sub
unfolding word_of accumulator_fields
returns-in-Sub c = by_case (λ y. word_of (accumulator_fields y)) c.in-Sub.is (of_shifted 1 _ _ c.addressed-in-Sub.ensures)

pub returns-in-Lac : goal.returns-in-Lac
unfolding word_of accumulator_fields
returns-in-Lac c = by_case (λ y. word_of (accumulator_fields y)) c.in-Lac.is (of_shifted 2 _ _ c.addressed-in-Lac.ensures)

pub returns-in-Addh : goal.returns-in-Addh
unfolding word_of accumulator_fields
returns-in-Addh c = by_case (λ y. word_of (accumulator_fields y)) c.in-Addh.is (of_address 0x48 _ c.addressed-in-Addh.ensures)

pub returns-in-Adds : goal.returns-in-Adds
unfolding word_of accumulator_fields
returns-in-Adds c = by_case (λ y. word_of (accumulator_fields y)) c.in-Adds.is (of_address 0x49 _ c.addressed-in-Adds.ensures)

pub returns-in-Subh : goal.returns-in-Subh
unfolding word_of accumulator_fields
returns-in-Subh c = by_case (λ y. word_of (accumulator_fields y)) c.in-Subh.is (of_address 0x44 _ c.addressed-in-Subh.ensures)

pub returns-in-Subs : goal.returns-in-Subs
unfolding word_of accumulator_fields
returns-in-Subs c = by_case (λ y. word_of (accumulator_fields y)) c.in-Subs.is (of_address 0x45 _ c.addressed-in-Subs.ensures)

pub returns-in-Subc : goal.returns-in-Subc
unfolding word_of accumulator_fields
returns-in-Subc c = by_case (λ y. word_of (accumulator_fields y)) c.in-Subc.is (of_address 0x47 _ c.addressed-in-Subc.ensures)

pub returns-in-Zalh : goal.returns-in-Zalh
unfolding word_of accumulator_fields
returns-in-Zalh c = by_case (λ y. word_of (accumulator_fields y)) c.in-Zalh.is (of_address 0x40 _ c.addressed-in-Zalh.ensures)

pub returns-in-Zals : goal.returns-in-Zals
unfolding word_of accumulator_fields
returns-in-Zals c = by_case (λ y. word_of (accumulator_fields y)) c.in-Zals.is (of_address 0x41 _ c.addressed-in-Zals.ensures)

pub returns-in-And : goal.returns-in-And
unfolding word_of accumulator_fields
returns-in-And c = by_case (λ y. word_of (accumulator_fields y)) c.in-And.is (of_address 0x4E _ c.addressed-in-And.ensures)

pub returns-in-Or : goal.returns-in-Or
unfolding word_of accumulator_fields
returns-in-Or c = by_case (λ y. word_of (accumulator_fields y)) c.in-Or.is (of_address 0x4D _ c.addressed-in-Or.ensures)

pub returns-in-Xor : goal.returns-in-Xor
unfolding word_of accumulator_fields
returns-in-Xor c = by_case (λ y. word_of (accumulator_fields y)) c.in-Xor.is (of_address 0x4C _ c.addressed-in-Xor.ensures)

pub returns-in-Sacl : goal.returns-in-Sacl
unfolding word_of accumulator_fields
returns-in-Sacl c = by_case (λ y. word_of (accumulator_fields y)) c.in-Sacl.is (of_selected 12 _ _ c.addressed-in-Sacl.ensures)

pub returns-in-Sach : goal.returns-in-Sach
unfolding word_of accumulator_fields
returns-in-Sach c = by_case (λ y. word_of (accumulator_fields y)) c.in-Sach.is (of_selected 13 _ _ c.addressed-in-Sach.ensures)

pub returns-in-Lack : goal.returns-in-Lack
unfolding word_of accumulator_fields
returns-in-Lack c = by_case (λ y. word_of (accumulator_fields y)) c.in-Lack.is (c.constant.ensures ∙ sym (field_after_lem _ 0xCA 8))

pub returns-in-Addk : goal.returns-in-Addk
unfolding word_of accumulator_fields
returns-in-Addk c = by_case (λ y. word_of (accumulator_fields y)) c.in-Addk.is (c.constant-in-Addk.ensures ∙ sym (field_after_lem _ 0xCC 8))

pub returns-in-Subk : goal.returns-in-Subk
unfolding word_of accumulator_fields
returns-in-Subk c = by_case (λ y. word_of (accumulator_fields y)) c.in-Subk.is (c.constant-in-Subk.ensures ∙ sym (field_after_lem _ 0xCD 8))

pub returns-in-Cmpl : goal.returns-in-Cmpl
unfolding word_of accumulator_fields
returns-in-Cmpl c = by_case (λ y. word_of (accumulator_fields y)) c.in-Cmpl.is (refl)

pub returns-in-Neg : goal.returns-in-Neg
unfolding word_of accumulator_fields
returns-in-Neg c = by_case (λ y. word_of (accumulator_fields y)) c.in-Neg.is (refl)

pub returns-in-Abs : goal.returns-in-Abs
unfolding word_of accumulator_fields
returns-in-Abs c = by_case (λ y. word_of (accumulator_fields y)) c.in-Abs.is (refl)

pub returns-in-Sfl : goal.returns-in-Sfl
unfolding word_of accumulator_fields
returns-in-Sfl c = by_case (λ y. word_of (accumulator_fields y)) c.in-Sfl.is (refl)

pub returns-in-Sfr : goal.returns-in-Sfr
unfolding word_of accumulator_fields
returns-in-Sfr c = by_case (λ y. word_of (accumulator_fields y)) c.in-Sfr.is (refl)
