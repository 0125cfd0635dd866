-- What is known of a decoded instruction: its operand and its numbers are within the bits that its page prints for them.
use Rattle.std.specs.Prelude.{◌<◌, ℕ, Option, Some, None}
use Rattle.operands.specs.declared.Indirect.{Indirect}
use Rattle.operands.specs.declared.Address.{Address}
use Rattle.operands.specs.declared.Address.TheVariants as Mode
use Rattle.instructions.specs.declared.Instruction.{Instruction}
use Rattle.instructions.specs.declared.Decoded.{Decoded}
use Rattle.instructions.specs.declared.Decoded.TheVariants.{Built, Unbuilt, Nothing}
use Rattle.encodings.specs.Encode.{fields_of}
use Rattle.encodings.specs.Within.{FieldsWithin}
use Rattle.pages.specs.Traits.{traits_of}

-- the next ARP is a register's number
abbrev pub NextFits : Option ℕ → Type 0
NextFits None = Unit {0}
NextFits (Some arp) = arp < 8

abbrev pub IndirectFits : Indirect → Type 0
IndirectFits operand = NextFits operand.next

-- an offset lies in its data page
abbrev pub AddressFits : Address → Type 0
AddressFits (Mode.Direct offset) = offset < 128
AddressFits (Mode.Indirect operand) = IndirectFits operand

abbrev pub OperandFits : Option Address → Type 0
OperandFits None = Unit {0}
OperandFits (Some a) = AddressFits a

pub record FieldsFit (x : Instruction) : Type 0 where
  pub operand : OperandFits (traits_of x).operand
  pub numbers : FieldsWithin (fields_of x)

-- the same of what a word decodes to
abbrev pub DecodedFits : Decoded → Type 0
DecodedFits (Built i) = FieldsFit i
DecodedFits Unbuilt = Unit {0}
DecodedFits Nothing = Unit {0}
