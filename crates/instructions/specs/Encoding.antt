-- How a page of section 4.3 prints an encoding: which words it has, and what its fields and its operand are.
use Rattle.std.specs.Prelude.{Bool, true, false, not, List, [], ◌∷◌, ℕ, zero, suc, ◌+◌, ◌-◌, ◌/◌, ◌%◌, ◌^◌, eqb, ltb, leb, Option, Some, None}
use Prim.Native.String.{String, ◌++◌, len, slice}
use lib.Text.{eqt}
use Rattle.operands.specs.declared.Modification.{Modification}
use Rattle.operands.specs.declared.Modification.TheVariants.{Minus, Plus, MinusReversed, MinusIndex, PlusIndex, PlusReversed}
use Rattle.operands.specs.declared.Indirect.{Indirect}
use Rattle.operands.specs.declared.Address.{Address}
use Rattle.operands.specs.declared.Address.TheVariants as operand
use Rattle.instructions.specs.declared.Accumulator.{Accumulator}
use Rattle.instructions.specs.declared.Multiplier.{Multiplier}
use Rattle.instructions.specs.declared.Auxiliary.{Auxiliary}
use Rattle.instructions.specs.declared.Branches.{Branches}
use Rattle.instructions.specs.declared.Transfers.{Transfers}
use Rattle.instructions.specs.declared.Modes.{Modes}
use Rattle.instructions.specs.declared.Instruction.TheVariants as family
use Rattle.instructions.specs.declared.Decoded.{Decoded}
use Rattle.instructions.specs.declared.Decoded.TheVariants.{Built, Unbuilt, Nothing}

abbrev pub pick : {A : Type 0} → Bool → A → A → A
pick true a b = a
pick false a b = b

abbrev pub both : Bool → Bool → Bool
both true b = b
both false b = false

-- from a on and below b
abbrev pub between : ℕ → ℕ → ℕ → Bool
between a b k = both (leb a k) (ltb k b)

-- what the first case with the key k says, and d where there is none
abbrev pub find : {A : Type 0} → A → List (ℕ × A) → ℕ → A
find d [] k = d
find d (e ∷ es) k = pick (eqb k e.0) e.1 (find d es k)

-- The character that a text as "0000 SSSS" has at bit k, counted from its right end; a space stands between each four bits.
abbrev pub printed_at : String → ℕ → String
printed_at t k = slice t (len t - 1 - (k + k / 4)) (len t - (k + k / 4))

-- A bit printed 0 is 0, one printed 1 is 1, and under a letter it is either.
abbrev pub allows : String → ℕ → Bool
allows c b = pick (eqt c "0") (eqb b 0) (pick (eqt c "1") (eqb b 1) true)

-- the lowest k bits of b are as the text prints them
abbrev pub fits : String → ℕ → ℕ → Bool
fits t zero b = true
fits t (suc k) b = both (allows (printed_at t k) (b / 2 ^ k % 2)) (fits t k b)

-- how many of the lowest k bits stand under the letter c
abbrev pub width_of : String → String → ℕ → ℕ
width_of t c zero = 0
width_of t c (suc k) = pick (eqt (printed_at t k) c) (suc (width_of t c k)) (width_of t c k)

-- the lowest of the lowest k bits that stands under the letter c, or l where none does
abbrev pub lowest_of : String → String → ℕ → ℕ → ℕ
lowest_of t c zero l = l
lowest_of t c (suc k) l = pick (eqt (printed_at t k) c) (lowest_of t c k k) (lowest_of t c k l)

-- the number that the bits of b under the letter c make, of a text for n bits
abbrev pub under : String → ℕ → ℕ → String → ℕ
under t n b c = b / 2 ^ lowest_of t c n 0 % 2 ^ width_of t c n

-- Bits 6 to 4 of an indirect operand (Table 4-1, 4-6); 011 is reserved.
abbrev pub modifications : List (ℕ × Modification)
modifications =
    (0b000, Modification.None) ∷
    (0b001, Minus) ∷
    (0b010, Plus) ∷
    (0b100, MinusReversed) ∷
    (0b101, MinusIndex) ∷
    (0b110, PlusIndex) ∷
    (0b111, PlusReversed) ∷
    []

unfoldable pub modification_of : ℕ → Modification
modification_of bits = find Modification.None modifications bits

-- Bit 3, and bits 2 to 0, which are free where bit 3 is 0 (4.1.2, 4-6).
unfoldable pub next_of : ℕ → Option ℕ
next_of low = pick (eqb (low / 8 % 2) 1) (Some (low % 8)) None

-- the indirect operand that a low byte is
unfoldable pub indirect_of : ℕ → Indirect
indirect_of low = record { modification = modification_of (low / 16 % 8); next = next_of low }

-- Bit 7 is 0: direct, with bits 6 to 0; else indirect (4.1.1 and 4.1.2).
unfoldable pub address_mode_of : ℕ → Address
address_mode_of low = pick (ltb low 128) (operand.Direct low) (operand.Indirect (indirect_of low))

-- a low byte of 1011 and four bits more: the reserved modification
abbrev pub reserved : ℕ → Bool
reserved low = eqb (low / 16) 0b1011

-- Bits 6 to 4 are printed as a modification: D of an operand's address, or M of NORM's "Modify AR".
abbrev pub modifies : String → Bool
modifies c = pick (eqt c "D") true (eqt c "M")

-- The low byte is as printed, and a modification is not the reserved one (ruling R1).
unfoldable pub low_fits : String → ℕ → Bool
low_fits t low = both (fits t 8 low) (pick (modifies (printed_at t 6)) (not (reserved low)) true)

-- a page: its name, its upper and its low byte as printed, and what a word of it is, from its fields and its low byte
pub record Page : Type 0 where
  pub name : String
  pub upper : String
  pub lower : String
  pub meaning : (String → ℕ) → ℕ → Decoded

abbrev pub page : String → String → String → ((String → ℕ) → ℕ → Decoded) → Page
page n u l m = record { name = n; upper = u; lower = l; meaning = m }

-- a page that is not built: its words are published, whatever their fields
abbrev pub unbuilt : String → String → String → Page
unbuilt n u l = page n u l (λ f low. Unbuilt)

-- what a page makes of a word
abbrev pub means : Page → ℕ → Decoded
means r w = r.meaning (under (r.upper ++ " " ++ r.lower) 16 w) (w % 256)

abbrev pub accumulator : Accumulator → Decoded
accumulator x = Built (family.Accumulator x)

abbrev pub multiplier : Multiplier → Decoded
multiplier x = Built (family.Multiplier x)

abbrev pub auxiliary : Auxiliary → Decoded
auxiliary x = Built (family.Auxiliary x)

abbrev pub branches : Branches → Decoded
branches x = Built (family.Branches x)

abbrev pub transfers : Transfers → Decoded
transfers x = Built (family.Transfers x)

abbrev pub modes : Modes → Decoded
modes x = Built (family.Modes x)

-- the page has the word
abbrev pub has : Page → ℕ → Bool
has r w = both (fits r.upper 8 (w / 256)) (low_fits r.lower (w % 256))

-- what the first page that has the word makes of it
abbrev pub first : List Page → ℕ → Decoded
first [] w = Nothing
first (r ∷ rs) w = pick (has r w) (means r w) (first rs w)
