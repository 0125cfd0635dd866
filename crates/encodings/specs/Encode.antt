-- The word of an instruction: the bits that its page prints, and in the place of each letter the bits of that field.
use Rattle.std.specs.Prelude.{List, [], ◌∷◌, ℕ, zero, suc, ◌+◌, ◌-◌, ◌*◌, ◌/◌, ◌%◌, ◌^◌, Option, Some, None}
use Prim.Native.String.{String, ◌++◌}
use lib.Text.{eqt}
use Rattle.instructions.specs.Encoding.{Page, pick, printed_at, lowest_of}
use Rattle.instructions.specs.Pages.{pages}
use Rattle.operands.specs.Bits.{modification_bits}
use Rattle.operands.specs.declared.Indirect.{Indirect}
use Rattle.operands.specs.declared.Address.{Address}
use Rattle.operands.specs.declared.Address.TheVariants as operand
use Rattle.instructions.specs.declared.Accumulator.{Accumulator}
use Rattle.instructions.specs.declared.Accumulator.TheVariants.{Add, Sub, Lac, Addh, Adds, Subh, Subs, Subc, Zalh, Zals, And, Or, Xor, Sacl, Sach, Lack, Addk, Subk, Cmpl, Neg, Abs, Sfl, Sfr}
use Rattle.instructions.specs.declared.Multiplier.{Multiplier}
use Rattle.instructions.specs.declared.Multiplier.TheVariants.{Lt, Lta, Ltp, Ltd, Lts, Mpy, Mpya, Mpys, Mpyk, Sqra, Sqrs, Mac, Macd, Pac, Apac, Spac, Spl, Sph, Spm}
use Rattle.instructions.specs.declared.Auxiliary.{Auxiliary}
use Rattle.instructions.specs.declared.Auxiliary.TheVariants.{Lar, Sar, Lark, Mar, Adrk, Sbrk, Ldp, Ldpk}
use Rattle.instructions.specs.declared.Branches.{Branches}
use Rattle.instructions.specs.declared.Branches.TheVariants.{B, Banz, Bz, Bnz, Bgz, Bgez, Blz, Blez, Bv, Bnv, Call, Ret}
use Rattle.instructions.specs.declared.Transfers.{Transfers}
use Rattle.instructions.specs.declared.Transfers.TheVariants.{Dmov, In, Out}
use Rattle.instructions.specs.declared.Modes.{Modes}
use Rattle.instructions.specs.declared.Modes.TheVariants.{Sovm, Rovm, Ssxm, Rsxm, Cnfd, Cnfp, Rpt, Rptk, Push, Pop}
use Rattle.instructions.specs.declared.Instruction.{Instruction}
use Rattle.instructions.specs.declared.Instruction.TheVariants as family

-- the number of a letter, in a list of letters and their numbers; 0 where it has none
abbrev pub letter_number : List (String × ℕ) → String → ℕ
letter_number [] c = 0
letter_number (e ∷ es) c = pick (eqt c e.0) e.1 (letter_number es c)

-- Bit k of a word of 16 bits: as printed, or under a letter that letter's bit, the lowest at the letter's lowest place.
-- Bits of a number above those that the page has for it are lost.
abbrev pub bit_of : String → (String → ℕ) → ℕ → ℕ
bit_of t f k =
    pick (eqt (printed_at t k) "0") 0
    (pick (eqt (printed_at t k) "1") 1 (f (printed_at t k) / 2 ^ (k - lowest_of t (printed_at t k) 16 0) % 2))

-- the bits from k - 1 down to 0, after those that make the number n
abbrev pub bits_after : String → (String → ℕ) → ℕ → ℕ → ℕ
bits_after t f n zero = n
bits_after t f n (suc k) = bits_after t f (n * 2 + bit_of t f k) k

-- the upper and the low byte of a page, as printed
abbrev pub text : Page → String
text r = r.upper ++ " " ++ r.lower

-- what the page of a name prints
abbrev pub printed : List Page → String → String
printed [] n = ""
printed (r ∷ rs) n = pick (eqt r.name n) (text r) (printed rs n)

-- the word of the page of a name, with these numbers for its letters
unfoldable pub word_of : String × List (String × ℕ) → ℕ
word_of page = bits_after (printed pages page.0) (letter_number page.1) 0 16

-- Bits 3 to 0: 1 and the next ARP; or 0, and 0 for the bits that are free then (4.1.2, 4-6).
unfoldable pub next_bits : Option ℕ → ℕ
next_bits None = 0
next_bits (Some r) = 8 + r % 8

-- D of an indirect operand
unfoldable pub indirect_bits : Indirect → ℕ
indirect_bits i = modification_bits i.modification * 16 + next_bits i.next

-- I: 0 is direct, 1 indirect (4.1.1 and 4.1.2)
unfoldable pub is_indirect : Address → ℕ
is_indirect (operand.Direct offset) = 0
is_indirect (operand.Indirect i) = 1

-- D: the offset in the page, or the bits of the indirect operand
unfoldable pub address_bits : Address → ℕ
address_bits (operand.Direct offset) = offset
address_bits (operand.Indirect i) = indirect_bits i

-- the letters of "IDDD DDDD"
abbrev pub address : Address → List (String × ℕ)
address a = ("I", is_indirect a) ∷ ("D", address_bits a) ∷ []

-- the letter of "1DDD DDDD"
abbrev pub indirect : Indirect → List (String × ℕ)
indirect i = ("D", indirect_bits i) ∷ []

-- An instruction's page, by its name, and the numbers of its letters.
unfoldable pub accumulator_fields : Accumulator → String × List (String × ℕ)
accumulator_fields (Add s a) = ("ADD", ("S", s) ∷ address a)
accumulator_fields (Sub s a) = ("SUB", ("S", s) ∷ address a)
accumulator_fields (Lac s a) = ("LAC", ("S", s) ∷ address a)
accumulator_fields (Addh a) = ("ADDH", address a)
accumulator_fields (Adds a) = ("ADDS", address a)
accumulator_fields (Subh a) = ("SUBH", address a)
accumulator_fields (Subs a) = ("SUBS", address a)
accumulator_fields (Subc a) = ("SUBC", address a)
accumulator_fields (Zalh a) = ("ZALH", address a)
accumulator_fields (Zals a) = ("ZALS", address a)
accumulator_fields (And a) = ("AND", address a)
accumulator_fields (Or a) = ("OR", address a)
accumulator_fields (Xor a) = ("XOR", address a)
accumulator_fields (Sacl x a) = ("SACL", ("X", x) ∷ address a)
accumulator_fields (Sach x a) = ("SACH", ("X", x) ∷ address a)
accumulator_fields (Lack k) = ("LACK", ("K", k) ∷ [])
accumulator_fields (Addk k) = ("ADDK", ("K", k) ∷ [])
accumulator_fields (Subk k) = ("SUBK", ("K", k) ∷ [])
accumulator_fields Cmpl = ("CMPL", [])
accumulator_fields Neg = ("NEG", [])
accumulator_fields Abs = ("ABS", [])
accumulator_fields Sfl = ("SFL", [])
accumulator_fields Sfr = ("SFR", [])

unfoldable pub multiplier_fields : Multiplier → String × List (String × ℕ)
multiplier_fields (Lt a) = ("LT", address a)
multiplier_fields (Lta a) = ("LTA", address a)
multiplier_fields (Ltp a) = ("LTP", address a)
multiplier_fields (Ltd a) = ("LTD", address a)
multiplier_fields (Lts a) = ("LTS", address a)
multiplier_fields (Mpy a) = ("MPY", address a)
multiplier_fields (Mpya a) = ("MPYA", address a)
multiplier_fields (Mpys a) = ("MPYS", address a)
multiplier_fields (Mpyk k) = ("MPYK", ("K", k) ∷ [])
multiplier_fields (Sqra a) = ("SQRA", address a)
multiplier_fields (Sqrs a) = ("SQRS", address a)
multiplier_fields (Mac a) = ("MAC", address a)
multiplier_fields (Macd a) = ("MACD", address a)
multiplier_fields Pac = ("PAC", [])
multiplier_fields Apac = ("APAC", [])
multiplier_fields Spac = ("SPAC", [])
multiplier_fields (Spl a) = ("SPL", address a)
multiplier_fields (Sph a) = ("SPH", address a)
multiplier_fields (Spm k) = ("SPM", ("K", k) ∷ [])

unfoldable pub auxiliary_fields : Auxiliary → String × List (String × ℕ)
auxiliary_fields (Lar r a) = ("LAR", ("R", r) ∷ address a)
auxiliary_fields (Sar r a) = ("SAR", ("R", r) ∷ address a)
auxiliary_fields (Lark r k) = ("LARK", ("R", r) ∷ ("K", k) ∷ [])
auxiliary_fields (Mar a) = ("MAR", address a)
auxiliary_fields (Adrk k) = ("ADRK", ("K", k) ∷ [])
auxiliary_fields (Sbrk k) = ("SBRK", ("K", k) ∷ [])
auxiliary_fields (Ldp a) = ("LDP", address a)
auxiliary_fields (Ldpk k) = ("LDPK", ("K", k) ∷ [])

unfoldable pub branch_fields : Branches → String × List (String × ℕ)
branch_fields (B i) = ("B", indirect i)
branch_fields (Banz i) = ("BANZ", indirect i)
branch_fields (Bz i) = ("BZ", indirect i)
branch_fields (Bnz i) = ("BNZ", indirect i)
branch_fields (Bgz i) = ("BGZ", indirect i)
branch_fields (Bgez i) = ("BGEZ", indirect i)
branch_fields (Blz i) = ("BLZ", indirect i)
branch_fields (Blez i) = ("BLEZ", indirect i)
branch_fields (Bv i) = ("BV", indirect i)
branch_fields (Bnv i) = ("BNV", indirect i)
branch_fields (Call i) = ("CALL", indirect i)
branch_fields Ret = ("RET", [])

unfoldable pub transfer_fields : Transfers → String × List (String × ℕ)
transfer_fields (Dmov a) = ("DMOV", address a)
transfer_fields (In p a) = ("IN", ("A", p) ∷ address a)
transfer_fields (Out p a) = ("OUT", ("A", p) ∷ address a)

unfoldable pub mode_fields : Modes → String × List (String × ℕ)
mode_fields Sovm = ("SOVM", [])
mode_fields Rovm = ("ROVM", [])
mode_fields Ssxm = ("SSXM", [])
mode_fields Rsxm = ("RSXM", [])
mode_fields Cnfd = ("CNFD", [])
mode_fields Cnfp = ("CNFP", [])
mode_fields (Rpt a) = ("RPT", address a)
mode_fields (Rptk k) = ("RPTK", ("K", k) ∷ [])
mode_fields Push = ("PUSH", [])
mode_fields Pop = ("POP", [])

unfoldable pub fields_of : Instruction → String × List (String × ℕ)
fields_of (family.Accumulator x) = accumulator_fields x
fields_of (family.Multiplier x) = multiplier_fields x
fields_of (family.Auxiliary x) = auxiliary_fields x
fields_of (family.Branches x) = branch_fields x
fields_of (family.Transfers x) = transfer_fields x
fields_of (family.Modes x) = mode_fields x

-- the word of an instruction
unfoldable pub encode_of : Instruction → ℕ
encode_of i = word_of (fields_of i)
