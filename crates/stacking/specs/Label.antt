-- What the figure on the label means.
use Rattle.std.specs.Prelude.{◌≡◌, ℕ, suc, ◌+◌, ◌≤◌}
use Rattle.steps.specs.World.{World}
use Rattle.stacking.specs.Stacking.{Stacks, last_world, StaysZero}
use Rattle.board.specs.Given.{Given}

-- a stack of k + 1 frames that overflows
pub record Overflows (k : ℕ) : Type 0 where
  pub g : Given
  pub w : World
  pub stacks : Stacks g w k
  pub overflowed : (last_world g w k).m.ov ≡ 1

-- "no choice of words overflows a stack of that many frames or fewer, and some choice overflows one more"
pub record MostFrames (n : ℕ) : Type 0 where
  pub safe : (g : Given) (w : World) (k : ℕ) → Stacks g w k → suc k ≤ n → StaysZero g w (k + 3)
  pub tight : Overflows n
