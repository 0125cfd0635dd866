-- The table of answers, cut into the stages that the code goes through.
use Rattle.std.specs.Prelude.{◌≡◌, List, ◌++◌, ℕ}
use Rattle.std.proofs.Common.{◌∙◌}
use Rattle.std.proofs.Math.Path.{ap}
use Rattle.machine.specs.declared.Machine.{Machine}
use Rattle.instructions.specs.declared.Instruction.{Instruction}
use Rattle.instructions.specs.declared.Decoded.{Decoded}
use Rattle.instructions.specs.declared.Decoded.TheVariants.{Built}
use Rattle.pages.specs.Traits.{traits_of}
use Rattle.board.specs.Given.{Given}
use Rattle.steps.specs.Plan.{Plan}
use Rattle.steps.specs.Pass.{plan_by, pass_plan}
use Rattle.steps.specs.Table.{decoded_at, second_word, check_rows, fetch_rows, encoding_rows, repeat_rows, instruction_rows, table_for}
use Rattle.steps.specs.Step.{page_plan, plan_of}
use Rattle.steps.proofs.RowLaws.{plan_append}

-- an instruction: what is asked before its pass, and then the pass
unfoldable pub instruction_plan : Instruction → Given → List ℕ → ℕ → Machine → Plan
instruction_plan i g «data» output_length m = plan_by (repeat_rows i m) m (pass_plan (traits_of i) i (second_word i g «data» m) g «data» output_length m)

-- from the word that was decoded on
unfoldable pub decoded_plan : Decoded → Given → List ℕ → ℕ → Machine → Plan
decoded_plan d g «data» output_length m = plan_by (encoding_rows d ++ instruction_rows d g «data» output_length m) m (page_plan d g «data» m)

-- from the fetch on
unfoldable pub fetch_plan : Given → List ℕ → ℕ → Machine → Plan
fetch_plan g «data» output_length m = plan_by (fetch_rows m) m (decoded_plan (decoded_at g «data» m) g «data» output_length m)

module _ (g : Given) («data» : List ℕ) (output_length : ℕ) (m : Machine) where
  pub instruction_stages : (i : Instruction) → decoded_plan (Built i) g «data» output_length m ≡ instruction_plan i g «data» output_length m
  unfolding decoded_plan instruction_plan encoding_rows instruction_rows page_plan pass_plan plan_by
  instruction_stages i = plan_append m _ (repeat_rows i m) _

  pub stages : plan_of g «data» output_length m ≡ plan_by (check_rows g «data» output_length m) m (fetch_plan g «data» output_length m)
  unfolding plan_of table_for fetch_plan decoded_plan
  stages =
      plan_append m _ (check_rows g «data» output_length m) _
      ∙ ap (λ (p : Plan). plan_by (check_rows g «data» output_length m) m p) (plan_append m _ (fetch_rows m) _)
