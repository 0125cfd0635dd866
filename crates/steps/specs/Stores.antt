-- The one store of a step, and the slices after it.
use Rattle.std.specs.Prelude.{cond, List, ℕ, ◌+◌, set}
use Rattle.pages.specs.declared.Store.{Store}
use Rattle.pages.specs.declared.Store.TheVariants as Left
use Rattle.board.specs.declared.Region.{Region}
use Rattle.board.specs.Regions.{move_allowed}
use Rattle.steps.specs.declared.Write.{Write}
use Rattle.steps.specs.declared.Write.TheVariants.{Nothing, Data, Sent}

-- The one store, for what a rule leaves to be stored at the operand's address, found in this region, by a machine with this CNF and output cursor. A data move: "the
-- word is copied to the next address only where both addresses lie in on-chip blocks now in data space. Elsewhere nothing is moved and the rest happens."
unfoldable pub write_of : Store → Region → ℕ → ℕ → ℕ → Write
write_of Left.Nothing region cnf address cursor = Nothing
write_of (Left.Word word) region cnf address cursor = Data address word
write_of (Left.Move word) region cnf address cursor = cond (move_allowed region cnf address) (Data (address + 1) word) Nothing
write_of (Left.Sent word) region cnf address cursor = Sent cursor word

-- the data words and the output words after a store
unfoldable pub data_after : Write → List ℕ → List ℕ
data_after Nothing «data» = «data»
data_after (Data address word) «data» = set «data» address word
data_after (Sent at word) «data» = «data»

unfoldable pub output_after : Write → List ℕ → List ℕ
output_after Nothing output = output
output_after (Data address word) output = output
output_after (Sent at word) output = set output at word
