-- Laws of tests.
use Rattle.std.specs.Prelude.{◌≡◌, refl, Bool, true, false, ◌&&◌}
use Rattle.std.proofs.lemmas.Bool.{false≢true}

-- two tests that hold together, each by itself; of a nest, the last one and those before it
pub both_hold : (t u : Bool) → t && u ≡ true → (t ≡ true) × (u ≡ true)
both_hold true u h = (refl, h)
both_hold false u h = absurd (false≢true h)
