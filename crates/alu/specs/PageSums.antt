-- What ADDH, SUBH, SUBC, NEG and ABS leave, by their pages.
use Rattle.std.specs.Prelude.{cond, ℕ, ◌+◌, ◌*◌, ◌%◌, ◌^◌, ltb, eqb, pos, neg_ℤ, ◌+ℤ◌, ◌-ℤ◌, nat_abs}
use Rattle.alu.specs.Word.{signed, low}
use Rattle.alu.specs.Sums.{holds, settled, carry, no_borrow}
use Rattle.alu.specs.declared.Sum.{Sum}

-- the word in bits 31 to 16, as ZALH loads it and as ADDH and SUBH take it, whatever SXM is (ruling R17)
unfoldable pub in_high_half : ℕ → ℕ
in_high_half w = w * 2 ^ 16

-- ADDH: C "is set if the result of the addition generates a carry; otherwise, C is unaffected"
unfoldable pub added_high : ℕ → ℕ → ℕ → ℕ → ℕ → Sum
added_high acc w ov ovm c =
    settled (signed 32 acc +ℤ signed 32 (in_high_half w)) ov ovm (cond (eqb (carry acc (in_high_half w)) 1) 1 c)

-- SUBH: C "is reset if the result of the subtraction generates a borrow; otherwise, C is unaffected"
unfoldable pub subtracted_high : ℕ → ℕ → ℕ → ℕ → ℕ → Sum
subtracted_high acc w ov ovm c =
    settled (signed 32 acc -ℤ signed 32 (in_high_half w)) ov ovm (cond (eqb (no_borrow acc (in_high_half w)) 0) 0 c)

-- SUBC, with the 32-bit operand x: the ALU's output, and ACC by its sign
unfoldable pub alu_output : ℕ → ℕ → ℕ
alu_output acc x = low 32 (signed 32 acc -ℤ signed 32 x)

-- "If ALU output >= 0: then (ALU output) x 2 + 1 -> ACC; else (ACC) x 2 -> ACC." No holding, and OV never by the doubling (ruling R18)
unfoldable pub subtracted_conditionally : ℕ → ℕ → ℕ → Sum
subtracted_conditionally acc x ov = record {
  acc = cond (ltb (alu_output acc x) (2 ^ 31)) (alu_output acc x * 2 + 1) (acc * 2 % 2 ^ 32);
  ov = cond (holds (signed 32 acc -ℤ signed 32 x)) ov 1;
  c = no_borrow acc x;
}

-- NEG: C is 0 "for all nonzero values of the accumulator, and set to one if the accumulator equals zero"
unfoldable pub negated : ℕ → ℕ → ℕ → Sum
negated acc ov ovm = settled (neg_ℤ (signed 32 acc)) ov ovm (cond (eqb acc 0) 1 0)

-- ABS: C is always 0 (ruling R19)
unfoldable pub absolute : ℕ → ℕ → ℕ → Sum
absolute acc ov ovm = settled (pos (nat_abs (signed 32 acc))) ov ovm 0
