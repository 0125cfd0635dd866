-- Division as the exposure code has it (document 02, request 6): a repeat instruction that gives 15, and SUBC behind it.
use Rattle.std.specs.Prelude.{◌≡◌, true, ℕ, ◌≤◌, get_or, Some, None}
use Rattle.alu.specs.Registers.{wrapped_sum}
use Rattle.answers.specs.Numbers.{is_done}
use Rattle.operands.specs.declared.Address.{Address}
use Rattle.operands.specs.declared.Address.TheVariants.{Direct, Indirect}
use Rattle.operands.specs.declared.Modification.{Modification}
use Rattle.instructions.specs.declared.Instruction.{Instruction}
use Rattle.instructions.specs.declared.Decoded.TheVariants.{Built}
use Rattle.instructions.specs.Decode.{decode_of}
use Rattle.pages.specs.Addressing.{address_of}
use Rattle.board.specs.Given.{Given}
use Rattle.steps.specs.World.{World}
use Rattle.steps.specs.Table.{decoded_at}
use Rattle.steps.specs.Step.{step_of, run_of}
use Rattle.laws.specs.Repeating.{word_ahead, Repeats}
use Rattle.division.specs.Division.{subc, Divided, Divisor}

-- "an address the passes do not change": a direct operand, or an indirect one with no modification and no next ARP
pub data Still : Address → Type 0 where
  direct : (offset : ℕ) → Still (Direct offset)
  indirect : Still (Indirect (record { modification = Modification.None; next = None }))

-- The code from PC on, with d in the data word at its operand's address; the run of seventeen steps is not refused. (So RPTC is 0 at the start: no repeat
-- instruction can be repeated.)
pub record ExposureCode (g : Given) (d : ℕ) (w : World) : Type 0 where
  pub repeat : Instruction
  pub repeat_first : decoded_at g w.«data» w.m ≡ Built repeat
  pub repeat_gives : Repeats w repeat 15
  pub operand : Address
  pub still : Still operand
  pub subc_second : decode_of (word_ahead g 1 w) ≡ Built (subc operand)
  -- at the address that it has after the repeat instruction, since an RPT may modify the register or change ARP
  pub divisor_there : get_or w.«data» (address_of (Some operand) (step_of g w).world.m) 0 ≡ d
  pub not_refused : is_done (run_of g 17 w).answer ≡ true

-- what that run leaves
pub record ExposureDivides (g : Given) (d : ℕ) (w : World) : Type 0 where
  pub divided : Divided w.m.acc d w.m (run_of g 17 w).world.m
  pub past_both_words : (run_of g 17 w).world.m.pc ≡ wrapped_sum w.m.pc 2
  pub same_data : (run_of g 17 w).world.«data» ≡ w.«data»

abbrev pub DividesByRepeat : Type 0
DividesByRepeat = (g : Given) (d : ℕ) (w : World) → w.m.acc ≤ 65535 → Divisor d → ExposureCode g d w → ExposureDivides g d w
