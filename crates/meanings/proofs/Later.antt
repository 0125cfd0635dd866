-- What the last arm of `later_page` is told: the place is none of those of the pages that are built, and so its page is not built.
use mathlib.Core.Path.{◌≡◌, sym}
use Prim.Native.Nat.{ℕ, ◌<◌, ◌≤◌}
use Rattle.instructions.specs.Places.{meaning_at}
use Rattle.instructions.specs.Past.{later_built, later_unbuilt}
use Rattle.instructions.specs.declared.Decoded.TheVariants.{Unbuilt}
use Rattle.meanings.proofs.Rest.{Rest, find_rest}

pub none_later : (p w : ℕ) → 75 ≤ p → p < 133 → Rest (Unit {0}) (later_built w) p → Unbuilt ≡ meaning_at p w
none_later p w lo hi rest = sym (later_unbuilt p w lo hi (find_rest Unbuilt (Unit {0}) (later_built w) p rest))
