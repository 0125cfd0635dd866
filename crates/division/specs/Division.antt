-- Division by SUBC (document 02, request 6): what sixteen passes of it in a row leave, over the emulator's own steps.
use Rattle.std.specs.Prelude.{◌≡◌, true, ℕ, ◌/◌, ◌%◌, ◌≤◌, ◌<◌}
use Rattle.alu.specs.Word.{low_half, high_half}
use Rattle.machine.specs.declared.Machine.{Machine}
use Rattle.answers.specs.Numbers.{is_done}
use Rattle.operands.specs.declared.Address.{Address}
use Rattle.instructions.specs.declared.Instruction.{Instruction}
use Rattle.instructions.specs.declared.Instruction.TheVariants as Family
use Rattle.instructions.specs.declared.Accumulator.TheVariants.{Subc}
use Rattle.instructions.specs.declared.Decoded.TheVariants.{Built}
use Rattle.board.specs.Given.{Given}
use Rattle.steps.specs.World.{World}
use Rattle.steps.specs.Table.{decoded_at}
use Rattle.steps.specs.Step.{step_of, world_after}
use Rattle.laws.specs.Laws.{words_at}

-- the instruction, with its operand
abbrev pub subc : Address → Instruction
subc operand = Family.Accumulator (Subc operand)

-- the next step is a pass of SUBC, with any operand; it is not refused, and reads the word d
pub record SubcPass (g : Given) (d : ℕ) (w : World) : Type 0 where
  pub operand : Address
  pub at_subc : decoded_at g w.«data» w.m ≡ Built (subc operand)
  pub not_refused : is_done (step_of g w).answer ≡ true
  pub reads : (words_at g w (subc operand)).operand ≡ d

-- so is each of the next n steps, whether they are repeated or stand one after another
abbrev pub SubcPasses : Given → ℕ → ℕ → World → Type 0
SubcPasses g d n w = (j : ℕ) → j < n → SubcPass g d (world_after g j w)

-- "the low half of ACC is the whole quotient, the high half the remainder, and OV is what it was"
pub record Divided (dividend divisor : ℕ) (before after : Machine) : Type 0 where
  pub quotient : low_half after.acc ≡ dividend / divisor
  pub remainder : high_half after.acc ≡ dividend % divisor
  pub overflow : after.ov ≡ before.ov

-- "a divisor d from 1 to 32,767"
pub record Divisor (d : ℕ) : Type 0 where
  pub least : 1 ≤ d
  pub most : d ≤ 32767

-- "Take ACC any number N from 0 to 65,535 .. After exactly sixteen passes, all reading that word and none refused"
abbrev pub Divides : Type 0
Divides = (g : Given) (d : ℕ) (w : World) → w.m.acc ≤ 65535 → Divisor d → SubcPasses g d 16 w
    → Divided w.m.acc d w.m (world_after g 16 w).m
