-- Not routine: an accepted file has at most 1,024 input words, so that `input[..count]` lies in the array and is as long as the file asks.
use Rattle.replaying.specs.ReplayLaws.{input_most, budget_read, fresh}
use mathlib.Core.Path.{refl, sym}
use Prim.Native.Nat.{ℕ}
use lib.ListN.{length-replicate}
use lib.Seq.{length-take-le}
use native.Mathlib.Omega.{arith}
use Rattle.replaying.proofs.replay_accepted.Goals as goal

pub slice_bounds-input-end : goal.slice_bounds-input-end
slice_bounds-input-end c = let most = input_most _ _ c.requires.accepted c.requires.counts in omega (arith, length-replicate {A = ℕ} 1024 0)

pub slice_bounds-replay_in-end-3 : goal.slice_bounds-replay_in-end-3
slice_bounds-replay_in-end-3 c = let most = input_most _ _ c.requires.accepted c.requires.counts in sym (length-take-le _ _ (omega (arith, length-replicate {A = ℕ} 1024 0)))

pub replay_in-requires : goal.replay_in-requires
replay_in-requires c = record {
  bytes_value = c.requires.accepted;
  budget_value = budget_read _ _ c.requires.accepted c.requires.counts;
  fresh_slices = rw c.from-count.ensures (fresh _ _ c.requires.accepted c.requires.counts _ _ _ _ (sym (length-replicate {A = ℕ} 4096 0)) (sym (length-replicate {A = ℕ} 4096 0)) (sym (length-replicate {A = ℕ} 1024 0)) refl);
}
