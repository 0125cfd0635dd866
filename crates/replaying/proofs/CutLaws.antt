-- A longer file can be cut: over ReplayLaws.antt of specs/.
use Rattle.std.specs.Prelude.{◌≡◌, refl, Bool, true, false, List, ℕ, ◌≤◌, ltb, length, take}
use Rattle.std.proofs.Common.{take_all}
use Rattle.std.proofs.Math.Path.{ap}
use borrow.Author.Tests.{ltb-true, ltb-false}
use Rattle.replay_line.specs.Replay.{replay_line}
use Rattle.replaying.specs.ReplayLaws.{cut_long}

module _ (bytes : List ℕ) (k : ℕ) (h : 16401 ≤ k) where
  pub cut_replay : replay_line (take k bytes) ≡ replay_line bytes
  cut_replay = by (ltb k (length bytes)) refl
    where
      by : (t : Bool) → ltb k (length bytes) ≡ t → replay_line (take k bytes) ≡ replay_line bytes
      by true e = cut_long bytes k h (ltb-true _ _ e)
      by false e = ap replay_line (take_all k bytes (ltb-false _ _ e))
