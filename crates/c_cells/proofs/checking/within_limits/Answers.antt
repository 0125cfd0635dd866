-- Not routine: the pairs of the chain are the cells with their limits, and what is gathered of them is what the definition asks.
use Rattle.std.proofs.Common.{◌∙◌, rules, tests}
use Rattle.std.proofs.lemmas.Iterator.{YieldsList-from_slice, YieldsList-from_zip}
use Rattle.std.proofs.lemmas.Iterator.Consumers.{fold_from_yields_List}
use Rattle.c_cells.proofs.CheckLoops.{also_kept, gathered}
use Rattle.c_cells.specs.Checks.{limits}
use Rattle.c_cells.proofs.checking.within_limits.Goals as goal

pub returns : goal.returns
unfolding limits
returns c = fold_from_yields_List _ also_kept _ _ c.fold.ensures.ran
    (YieldsList-from_zip (YieldsList-from_slice c.args.cells.now cc) (YieldsList-from_slice _ cc))
    (λ a x b q k. search (rules, tests))
    ∙ gathered c.args.cells.now c.told-cells
