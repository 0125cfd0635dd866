use Rattle.c_cells.proofs.StoreLoops.{sets_more}
use native.Mathlib.Omega.{arith}
use Rattle.c_cells.proofs.storing.put_eight.Goals as goal

pub loop-k-preserved : goal.loop-k-preserved
loop-k-preserved c = rw c.from.ensures (sets_more _ c.args.words.now c.args.at _ c.loop-k.invariant (omega (arith, c.told-words, c.loop-k-test.true)))
