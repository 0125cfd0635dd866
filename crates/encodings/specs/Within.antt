-- The fields of an instruction are within their bits: each number is below 2 to the number of bits under its letter. The next ARP of an indirect operand,
-- of which a field has the low three bits only, is in crates/ranges/specs/Fields.antt.
use Rattle.std.specs.Prelude.{List, [], ◌∷◌, ℕ, ◌^◌, ◌<◌}
use Prim.Native.String.{String}
use Rattle.instructions.specs.Encoding.{width_of}
use Rattle.instructions.specs.Pages.{pages}
use Rattle.encodings.specs.Encode.{printed}

-- each number, given with its letter, is below 2 to the number of bits that the text prints under that letter
abbrev pub Within : String → List (String × ℕ) → Type 0
Within t [] = Unit {0}
Within t (e ∷ es) = (e.1 < 2 ^ width_of t e.0 16) × Within t es

-- a page, by its name, and the numbers of its letters
abbrev pub FieldsWithin : String × List (String × ℕ) → Type 0
FieldsWithin f = Within (printed pages f.0) f.1
