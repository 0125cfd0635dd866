-- A pass that leaves a repeat pending has RPTC above 0.
use Rattle.std.specs.Prelude.{◌≡◌, Bool, true, false, ◌&&◌, ℕ, ◌<◌, ltb}
use Rattle.std.proofs.lemmas.Bool.{false≢true}
use Rattle.std.proofs.Common.{ltb-true}

pub pending : (repeatable : Bool) (n : ℕ) → repeatable && ltb 0 n ≡ true → 0 < n
pending true n h = ltb-true 0 n h
pending false n h = absurd (false≢true h)
