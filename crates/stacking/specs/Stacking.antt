-- Demand 3, over the emulator's own runs: what is asked of a world in which a stack is started, and the words that its passes read.
use Rattle.std.specs.Prelude.{◌≡◌, true, List, [], ◌∷◌, ◌↔◌, ℕ, zero, suc, ◌+◌, ◌^◌, ◌≤◌, ◌<◌, get_or}
use Rattle.alu.specs.Word.{signed}
use Rattle.answers.specs.Numbers.{is_done}
use Rattle.instructions.specs.declared.Instruction.{Instruction}
use Rattle.instructions.specs.declared.Instruction.TheVariants as Family
use Rattle.operands.specs.declared.Address.{Address}
use Rattle.instructions.specs.declared.Multiplier.TheVariants.{Mac, Macd, Apac}
use Rattle.instructions.specs.declared.Decoded.{Decoded}
use Rattle.instructions.specs.declared.Decoded.TheVariants.{Built, Unbuilt, Nothing}
use Rattle.instructions.specs.Decode.{decode_of}
use Rattle.board.specs.Given.{Given}
use Rattle.steps.specs.World.{World}
use Rattle.steps.specs.Table.{decoded_at}
use Rattle.steps.specs.Step.{step_of, run_of}
use Rattle.laws.specs.Laws.{words_at}
use Rattle.laws.specs.Repeating.{word_ahead, Repeats}
use Rattle.frame_sums.specs.Frames.{Pair, Near, exact_sum, AllLeast}

-- ---- the words that the passes read, taken from the run itself

-- the data word and the program word that the next step reads
unfoldable pub pair_for : Decoded → Given → World → Pair
pair_for (Built i) g w = record {
  data_word = (words_at g w i).operand;
  program_word = (words_at g w i).table;
}
pair_for Unbuilt g w = record { data_word = 0; program_word = 0 }
pair_for Nothing g w = record { data_word = 0; program_word = 0 }

unfoldable pub pair_at : Given → World → Pair
pair_at g w = pair_for (decoded_at g w.«data» w.m) g w

-- those of n steps, one after another
unfoldable pub pairs_read : Given → ℕ → World → List Pair
pairs_read g zero w = []
pairs_read g (suc n) w = pair_at g w ∷ pairs_read g n (step_of g w).world

-- ---- what stands at PC

-- "one MAC or MACD (direct or indirect, any modification)"
pub data Accumulates : Instruction → Type 0 where
  by_mac : (a : Address) → Accumulates (Family.Multiplier (Mac a))
  by_macd : (a : Address) → Accumulates (Family.Multiplier (Macd a))

-- every word of a list has 16 bits, as those of a lent slice have
pub record Sized (words : List ℕ) : Type 0 where
  pub bits : (i : ℕ) → get_or words i 0 < 2 ^ 16

-- "From ACC, P and OV zero, product shift 3, no repeat pending": the count k is n - 1; the run of n + 2 steps is not refused
pub record Stacks (g : Given) (w : World) (k : ℕ) : Type 0 where
  pub acc_zero : w.m.acc ≡ 0
  pub p_zero : w.m.p ≡ 0
  pub ov_zero : w.m.ov ≡ 0
  pub shift_three : w.m.pm ≡ 3
  pub no_repeat : w.m.rptc ≡ 0
  pub repeat : Instruction
  pub repeat_first : decoded_at g w.«data» w.m ≡ Built repeat
  pub repeat_gives : Repeats w repeat k
  pub accumulate : Instruction
  pub accumulate_second : decode_of (word_ahead g 1 w) ≡ Built accumulate
  pub accumulates : Accumulates accumulate
  pub apac_third : decode_of (word_ahead g 3 w) ≡ Built (Family.Multiplier Apac)
  pub not_refused : is_done (run_of g (k + 3) w).answer ≡ true
  pub rom_sized : Sized g.rom
  pub data_sized : Sized w.«data»

-- the world that the run leaves, and the words that its n passes read: those of the steps after the first
unfoldable pub last_world : Given → World → ℕ → World
last_world g w k = (run_of g (k + 3) w).world

unfoldable pub words : Given → World → ℕ → List Pair
words g w k = pairs_read g (suc k) (step_of g w).world

-- "OV stays 0": it is 0 at the start, and after each of these steps of the run
abbrev pub StaysZero : Given → World → ℕ → Type 0
StaysZero g w steps = (j : ℕ) → j ≤ steps → (run_of g j w).world.m.ov ≡ 0

-- "OV stays 0 and 0 <= S - 64 A <= 63 n": OV after each of the n + 2 steps, A after the last
pub record Holds (g : Given) (w : World) (k : ℕ) : Type 0 where
  pub ov : StaysZero g w (k + 3)
  pub near : Near (suc k) (exact_sum (words g w k)) (signed 32 (last_world g w k).m.acc)

-- the next step is the final product add
abbrev pub AtApac : Given → World → Type 0
AtApac g w = decoded_at g w.«data» w.m ≡ Built (Family.Multiplier Apac)

-- "for n = 128 OV is set exactly when all 256 words read are -32768, and otherwise the same bounds hold": no step before the last sets it, whatever the words are
pub record HoldsAt128 (g : Given) (w : World) (k : ℕ) : Type 0 where
  pub before_the_last : StaysZero g w (k + 2)
  pub last_is_apac : AtApac g (run_of g (k + 2) w).world
  pub set_by_the_last : (last_world g w k).m.ov ≡ 1 ↔ AllLeast (words g w k)
  pub otherwise : (AllLeast (words g w k) → ⊥) → Holds g w k
