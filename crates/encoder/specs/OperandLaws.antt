-- Bounds of an operand's bits.
use Rattle.std.specs.Prelude.{◌<◌, ℕ, Option, Some, None}
use Rattle.std.proofs.Common.{arith, ltb→lt}
use Rattle.operands.specs.declared.Modification.{Modification}
use Rattle.operands.specs.declared.Modification.TheVariants.{Minus, Plus, MinusReversed, MinusIndex, PlusIndex, PlusReversed}
use Rattle.operands.specs.Bits.{modification_bits}
use Rattle.encodings.specs.Encode.{next_bits}

pub modification_lt : (m : Modification) → modification_bits m < 8
unfolding modification_bits
modification_lt Modification.None = ltb→lt 0 8 tt
modification_lt Minus = ltb→lt 1 8 tt
modification_lt Plus = ltb→lt 2 8 tt
modification_lt MinusReversed = ltb→lt 4 8 tt
modification_lt MinusIndex = ltb→lt 5 8 tt
modification_lt PlusIndex = ltb→lt 6 8 tt
modification_lt PlusReversed = ltb→lt 7 8 tt

pub next_lt : (n : Option ℕ) → next_bits n < 16
unfolding next_bits
next_lt None = omega arith
next_lt (Some r) = omega arith
