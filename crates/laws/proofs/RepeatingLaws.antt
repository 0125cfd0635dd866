-- The step of an RPT or RPTK that gives a count: proof.
use Rattle.std.specs.Prelude.{◌≡◌, ℕ}
use Rattle.answers.specs.Answers.{Done}
use Rattle.instructions.specs.declared.Instruction.{Instruction}
use Rattle.instructions.specs.declared.Instruction.TheVariants as Family
use Rattle.instructions.specs.declared.Modes.TheVariants.{Rpt, Rptk}
use Rattle.instructions.specs.declared.Decoded.TheVariants.{Built}
use Rattle.pages.specs.Traits.{traits_of, modes_traits}
use Rattle.pages.specs.Passes.{followed, destination}
use Rattle.pages.specs.ModesPages.{RPT, RPTK}
use Rattle.pages.specs.ModesRule.{modes_rule}
use Rattle.pages.specs.Rules.{rule_of}
use Rattle.board.specs.Finding.{found_at}
use Rattle.board.specs.Given.{Given}
use Rattle.steps.specs.Stores.{write_of, data_after, output_after}
use Rattle.steps.specs.OperandFound.{operand_found, found_for}
use Rattle.steps.specs.Pass.{words_read, effect_of, passed_machine, passed_write, performed}
use Rattle.steps.specs.World.{World}
use Rattle.steps.specs.Table.{decoded_at, second_word}
use Rattle.steps.specs.Step.{after_store, step_of}
use Rattle.steps.proofs.TableLaws.{step_world}
use Rattle.laws.specs.Repeating.{Repeats, by_rptk, by_rpt, repeat_begun}
use Rattle.laws.proofs.OperandLaws.{operand_alike}

module _ (g : Given) (w : World) where
  performs : (r : Instruction) (k : ℕ) → Repeats w r k
      → after_store (performed (traits_of r) r (second_word r g w.«data» w.m) g w.«data» w.m) w ≡ repeat_begun w r k
  unfolding after_store performed passed_machine passed_write effect_of traits_of modes_traits rule_of modes_rule RPT RPTK followed destination write_of data_after output_after words_read found_for operand_found found_at
  performs _ _ (by_rptk k) = rw (operand_alike (traits_of (Family.Modes (Rptk k))).operand w.m).pc
  performs _ _ (by_rpt a) = rw (operand_alike (traits_of (Family.Modes (Rpt a))).operand w.m).pc

  pub repeat_begins : (r : Instruction) (k : ℕ) → Repeats w r k → decoded_at g w.«data» w.m ≡ Built r → (step_of g w).answer ≡ Done
      → (step_of g w).world ≡ repeat_begun w r k
  repeat_begins r k gives is done = rw (step_world g w r is done) (performs r k gives)
