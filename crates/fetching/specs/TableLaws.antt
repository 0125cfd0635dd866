-- By the table of the kinds the plan is the step's.
use Rattle.std.specs.Prelude.{◌≡◌, refl, List, ℕ, ◌<◌}
use Rattle.machine.specs.declared.Machine.{Machine}
use Rattle.kinds.specs.Table.{kind_table}
use Rattle.decoder.specs.TableLaws.{decode_by_kinds}
use Rattle.board.specs.Windows.{program_word}
use Rattle.board.specs.Given.{Given}
use Rattle.steps.specs.Table.{decoded_at}
use Rattle.steps.proofs.Stages.{fetch_plan}
use Rattle.fetching.specs.ByTable.{fetch_plan_by}

pub fetch_by_kinds : (g : Given) («data» : List ℕ) (output_length : ℕ) (m : Machine) → program_word m.cnf m.pc g.rom «data» < 65536
    → fetch_plan_by kind_table g «data» output_length m ≡ fetch_plan g «data» output_length m
unfolding fetch_plan_by fetch_plan decoded_at
fetch_by_kinds g «data» output_length m h = rw (decode_by_kinds (program_word m.cnf m.pc g.rom «data») h) refl
