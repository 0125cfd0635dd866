-- A stack of 4 frames at the edges of the premises: CNF is 1; RPT, with a direct operand, stands in B0 at FFFFh, so that PC turns over; MID is 1 at the start; and each
-- pass of MACD moves the word that the next pass reads, with its table in B0.
use Rattle.std.specs.Prelude.{◌≡◌, List, [], ◌∷◌, ℕ, pos, neg_ℤ, get_or, set, replicate}
use Rattle.std.proofs.lemmas.List.Edits.{sets}
use Rattle.machine.specs.declared.Machine.{Machine}
use Rattle.machine.specs.Cells.{with_pc, with_pfc, with_arp, with_dp, with_pm, with_cnf, with_mid, with_register, register}
use Rattle.machine.specs.Reset.{reset_machine}
use Rattle.answers.specs.Numbers.{number_of}
use Rattle.steps.specs.World.{World, RunOutcome}
use Rattle.steps.specs.Step.{run_of}
use Rattle.frame_sums.specs.Frames.{exact_sum}
use Rattle.stacking.specs.Stacking.{words}
use Rattle.board.specs.Given.{given}

-- from 0000h on: MACD FF00h, *+; APAC
unfoldable pub edge_rom : List ℕ
edge_rom = 0x5CA0 ∷ 0xFF00 ∷ 0xCE15 ∷ replicate 4093 0

-- B0: the table 1, 2, 100, 32767 from 0200h on (program address FF00h), and RPT 5 at 02FFh (FFFFh). B1: -3 at 0300h, and words that the moves replace.
-- External RAM: RPT's data word at 0405h, whose low 8 bits are 3
unfoldable pub edge_data : List ℕ
edge_data =
    set
    (sets
    (sets (replicate 4096 0) 0x200 (1 ∷ 2 ∷ 100 ∷ 32767 ∷ []))
    0x2FF (0x4B05 ∷ 0xFFFD ∷ 7 ∷ 7 ∷ 7 ∷ 7 ∷ []))
    0x405 0xAB03

-- RPT's operand is at 128 x 8 + 5; MACD's is at AR1. PFC is an address that no pass reads
unfoldable pub edge_machine : Machine
edge_machine =
    with_pc (with_pfc (with_mid (with_cnf (with_pm (with_dp (with_arp (with_register reset_machine 1 0x300) 1) 8) 3) 1) 1) 0x123) 0xFFFF

unfoldable pub edge_world : World
edge_world = record { m = edge_machine; «data» = edge_data; output = [] }

-- the run of n + 2 steps
unfoldable pub edge_run : RunOutcome
edge_run = run_of (given edge_rom []) 6 edge_world

-- What document 01's rules come to, by hand. RPT takes the count 3, leaves MID 0, since it is not repeatable, and PC is FFFFh + 1 = 0000h. The first pass reads -3 at 0300h
-- and copies it to 0301h, where the second reads it, and so on, so each product is -3 times a word of the table: -3, -6, -300, -98301. With product shift 3 each is
-- divided by 64 and rounded down: -1, -1, -5, -1536. A is their sum, -1543 (FFFFF9F9h); S is -98610, and S - 64 A = 142 is within 63 x 4.
pub record EdgeCase : Type 0 where
  -- answer, steps, ACC, OV
  pub comes_to : number_of edge_run.answer ∷ edge_run.steps ∷ edge_run.world.m.acc ∷ edge_run.world.m.ov ∷ [] ≡ 0 ∷ 6 ∷ 0xFFFF_F9F9 ∷ 0 ∷ []
  -- PC, PFC, MID, AR1, and the last word moved
  pub leaves : edge_run.world.m.pc ∷ edge_run.world.m.pfc ∷ edge_run.world.m.mid ∷ register edge_run.world.m 1 ∷ get_or edge_run.world.«data» 0x304 0 ∷ [] ≡ 0x0003 ∷ 0xFF04 ∷ 0 ∷ 0x304 ∷ 0xFFFD ∷ []
  pub reads : words (given edge_rom []) edge_world 3
      ≡ record { data_word = 0xFFFD; program_word = 1 } ∷ record { data_word = 0xFFFD; program_word = 2 } ∷ record { data_word = 0xFFFD; program_word = 100 } ∷ record { data_word = 0xFFFD; program_word = 32767 } ∷ []
  pub exact : exact_sum (words (given edge_rom []) edge_world 3) ≡ neg_ℤ (pos 98610)
