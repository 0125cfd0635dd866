-- A repeat as a program has it: the words ahead of PC, and the instruction that gives the count.
use Rattle.std.specs.Prelude.{ℕ, ◌%◌, ◌^◌, get_or, Some}
use Rattle.alu.specs.Registers.{wrapped_sum}
use Rattle.machine.specs.Cells.{with_pc, with_mid, with_rptc}
use Rattle.operands.specs.declared.Address.{Address}
use Rattle.instructions.specs.declared.Instruction.{Instruction}
use Rattle.instructions.specs.declared.Instruction.TheVariants as Family
use Rattle.instructions.specs.declared.Modes.TheVariants.{Rpt, Rptk}
use Rattle.pages.specs.Traits.{traits_of}
use Rattle.pages.specs.Addressing.{addressed, address_of}
use Rattle.board.specs.Windows.{program_word}
use Rattle.board.specs.Given.{Given}
use Rattle.steps.specs.World.{World}

-- the program word at `ahead` words past PC
unfoldable pub word_ahead : Given → ℕ → World → ℕ
word_ahead g ahead w = program_word w.m.cnf (wrapped_sum w.m.pc ahead) g.rom w.«data»

-- an RPT or RPTK that gives a count
pub data Repeats (w : World) : Instruction → ℕ → Type 0 where
  by_rptk : (k : ℕ) → Repeats w (Family.Modes (Rptk k)) k
  by_rpt : (a : Address) → Repeats w (Family.Modes (Rpt a)) (get_or w.«data» (address_of (Some a) w.m) 0 % 2 ^ 8)

-- the world after its step: the operand is modified, RPTC takes the count, MID becomes 0 and PC moves past the word; nothing is stored
abbrev pub repeat_begun : World → Instruction → ℕ → World
repeat_begun w r k = record {
  m = with_pc (with_mid (with_rptc (addressed (traits_of r).operand w.m) k) 0) (wrapped_sum w.m.pc 1);
  «data» = w.«data»;
  output = w.output;
}
