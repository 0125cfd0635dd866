-- The bits that an operand's modification is in a word.
use Rattle.std.specs.Prelude.{ℕ}
use Rattle.operands.specs.declared.Modification.{Modification}
use Rattle.operands.specs.declared.Modification.TheVariants.{None, Minus, Plus, MinusReversed, MinusIndex, PlusIndex, PlusReversed}

-- Bits 6 to 4 of an indirect operand (Table 4-1, 4-6).
unfoldable pub modification_bits : Modification → ℕ
modification_bits None = 0b000
modification_bits Minus = 0b001
modification_bits Plus = 0b010
modification_bits MinusReversed = 0b100
modification_bits MinusIndex = 0b101
modification_bits PlusIndex = 0b110
modification_bits PlusReversed = 0b111
