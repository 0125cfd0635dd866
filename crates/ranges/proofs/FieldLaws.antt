-- The operand and the numbers of a decoded instruction are within the bits that its page prints for them: proofs.
use Rattle.std.specs.Prelude.{◌≡◌, refl, Bool, true, false, List, [], ◌∷◌, map, ℕ, ◌/◌, ◌%◌, ◌<◌, eqb, ltb, Option, Some, None}
use Rattle.std.proofs.Common.{ap, subst, arith, ltb-true}
use Rattle.operands.specs.declared.Address.{Address}
use Rattle.operands.specs.declared.Address.TheVariants as Mode
use Rattle.instructions.specs.declared.Instruction.{Instruction}
use Rattle.instructions.specs.declared.Decoded.{Decoded}
use Rattle.instructions.specs.declared.Decoded.TheVariants.{Built, Unbuilt, Nothing}
use Rattle.instructions.specs.Encoding.{Page, pick, has, means, first, address_mode_of, indirect_of, next_of}
use Rattle.instructions.specs.Pages.{pages}
use Rattle.instructions.specs.Decode.{decode_of}
use Rattle.encodings.specs.Rows.{is_operand, is_branch_page}
use Rattle.encodings.proofs.Back.{fields_within, head_or, rest}
use Rattle.pages.specs.Traits.{traits_of, accumulator_traits, multiplier_traits, auxiliary_traits, branches_traits, transfers_traits, modes_traits}
use Rattle.machine.specs.declared.Machine.{Machine}
use Rattle.board.specs.Windows.{program_word}
use Rattle.board.specs.Given.{Given}
use Rattle.steps.specs.Table.{decoded_at}
use Rattle.ranges.specs.Fields.{NextFits, IndirectFits, AddressFits, OperandFits, DecodedFits}

next_fits : (low : ℕ) → NextFits (next_of low)
unfolding next_of
next_fits low = by (eqb (low / 8 % 2) 1)
  where
    by : (t : Bool) → NextFits (pick t (Some (low % 8)) None)
    by true = omega arith
    by false = tt

indirect_fits : (low : ℕ) → IndirectFits (indirect_of low)
unfolding indirect_of
indirect_fits low = next_fits low

address_fits : (low : ℕ) → AddressFits (address_mode_of low)
unfolding address_mode_of
address_fits low = by (ltb low 128) refl
  where
    by : (t : Bool) → ltb low 128 ≡ t → AddressFits (pick t (Mode.Direct low) (Mode.Indirect (indirect_of low)))
    by true e = omega (arith, ltb-true low 128 e)
    by false e = indirect_fits low

-- ---- the operand, by the low byte that the page prints

abbrev printed_operand : Page → ℕ → Option Address
printed_operand r w =
    pick (is_operand r) (Some (address_mode_of (w % 256)))
    (pick (is_branch_page r) (Some (Mode.Indirect (indirect_of (w % 256)))) None)

printed_fits : (r : Page) (w : ℕ) → OperandFits (printed_operand r w)
printed_fits r w = by (is_operand r) (is_branch_page r)
  where
    by : (o b : Bool) → OperandFits (pick o (Some (address_mode_of (w % 256))) (pick b (Some (Mode.Indirect (indirect_of (w % 256)))) None))
    by true b = address_fits (w % 256)
    by false true = indirect_fits (w % 256)
    by false false = tt

-- the operand of what a word is; the one that is given, where it is no instruction
abbrev operand_or : Option Address → Decoded → Option Address
operand_or o (Built i) = (traits_of i).operand
operand_or o Unbuilt = o
operand_or o Nothing = o

-- over all pages: the operand of an instruction is the one that its page prints
operands_printed : (w : ℕ) → map (λ r. operand_or (printed_operand r w) (means r w)) pages ≡ map (λ r. printed_operand r w) pages
unfolding traits_of accumulator_traits multiplier_traits auxiliary_traits branches_traits transfers_traits modes_traits
operands_printed w = refl

row_fits : (d : Decoded) (o : Option Address) → operand_or o d ≡ o → OperandFits o → OperandFits (operand_or None d)
row_fits (Built i) o e f = rw e f
row_fits Unbuilt o e f = tt
row_fits Nothing o e f = tt

first_fits : (rs : List Page) (w : ℕ) → map (λ r. operand_or (printed_operand r w) (means r w)) rs ≡ map (λ r. printed_operand r w) rs
    → OperandFits (operand_or None (first rs w))
first_fits [] w e = tt
first_fits (r ∷ rs) w e =
    by (has r w) (row_fits (means r w) (printed_operand r w) (ap (head_or None) e) (printed_fits r w)) (first_fits rs w (ap rest e))
  where
    by : (t : Bool) → OperandFits (operand_or None (means r w)) → OperandFits (operand_or None (first rs w))
        → OperandFits (operand_or None (pick t (means r w) (first rs w)))
    by true f next = f
    by false f next = next

-- ---- for every word

pub decoded_operand : (w : ℕ) (i : Instruction) → decode_of w ≡ Built i → OperandFits (traits_of i).operand
unfolding decode_of
decoded_operand w i e = subst (λ (d : Decoded). OperandFits (operand_or None d)) e (first_fits pages w (operands_printed w))

-- and for the numbers, every word of 16 bits
pub decoded_fields : (w : ℕ) → w < 65536 → DecodedFits (decode_of w)
decoded_fields w h = by (decode_of w) refl
  where
    by : (d : Decoded) → decode_of w ≡ d → DecodedFits d
    by (Built i) e = record { operand = decoded_operand w i e; numbers = fields_within w i h e }
    by Unbuilt e = tt
    by Nothing e = tt

pub fields_at : (g : Given) («data» : List ℕ) (m : Machine) → program_word m.cnf m.pc g.rom «data» < 65536 → DecodedFits (decoded_at g «data» m)
unfolding decoded_at
fields_at g «data» m h = decoded_fields (program_word m.cnf m.pc g.rom «data») h
