-- The plan of a step whose word is decoded by a table of kinds that is given.
use Rattle.std.specs.Prelude.{List, ℕ}
use Rattle.machine.specs.declared.Machine.{Machine}
use Rattle.decoder.specs.ByTable.{decode_by}
use Rattle.board.specs.Windows.{program_word}
use Rattle.board.specs.Given.{Given}
use Rattle.steps.specs.Plan.{Plan}
use Rattle.steps.specs.Pass.{plan_by}
use Rattle.steps.proofs.Stages.{decoded_plan}
use Rattle.steps.specs.Table.{fetch_rows}

unfoldable pub fetch_plan_by : List ℕ → Given → List ℕ → ℕ → Machine → Plan
fetch_plan_by kinds g «data» output_length m =
    plan_by (fetch_rows m) m (decoded_plan (decode_by kinds (program_word m.cnf m.pc g.rom «data»)) g «data» output_length m)
