-- What a word is.
use Rattle.std.specs.Prelude.{Bool, true, false, ℕ}
use Rattle.instructions.specs.Encoding.{first}
use Rattle.instructions.specs.Pages.{pages}
use Rattle.instructions.specs.declared.Decoded.{Decoded}
use Rattle.instructions.specs.declared.Decoded.TheVariants.{Built, Unbuilt, Nothing}

-- The first page that has the word decides; a word that no page has is nothing.
unfoldable pub decode_of : ℕ → Decoded
decode_of w = first pages w

abbrev pub is_built : Decoded → Bool
is_built (Built i) = true
is_built Unbuilt = false
is_built Nothing = false

-- published and not built
abbrev pub is_unbuilt : Decoded → Bool
is_unbuilt (Built i) = false
is_unbuilt Unbuilt = true
is_unbuilt Nothing = false

-- in no encoding
abbrev pub is_nothing : Decoded → Bool
is_nothing (Built i) = false
is_nothing Unbuilt = false
is_nothing Nothing = true
