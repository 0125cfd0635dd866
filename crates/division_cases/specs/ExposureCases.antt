-- Two runs that meet every premise of the exposure code, computed from the emulator's definitions.
use Rattle.std.specs.Prelude.{◌≡◌, List, [], ◌∷◌, ℕ, set, replicate}
use Rattle.std.proofs.lemmas.List.Edits.{sets}
use Rattle.machine.specs.Cells.{with_acc, with_pc, with_arp, with_dp, with_ov, with_ovm, with_cnf, with_mid, with_register, register}
use Rattle.machine.specs.Reset.{reset_machine}
use Rattle.answers.specs.Numbers.{number_of}
use Rattle.board.specs.Given.{Given, given}
use Rattle.steps.specs.World.{World, RunOutcome}
use Rattle.steps.specs.Step.{run_of}
use Rattle.division.specs.Exposure.{ExposureCode}

-- 33 by 5 (guide, section 5.6.5) by the two words of SUBC's page: RPTK 15; SUBC DAT2 with DP 4, which is 0202h
unfoldable pub guide_given : Given
guide_given = given (0xCB0F ∷ 0x4702 ∷ replicate 4094 0) []

unfoldable pub guide_world : World
guide_world = record { m = with_dp (with_acc reset_machine 33) 4; «data» = set (replicate 4096 0) 0x202 5; output = [] }

unfoldable pub guide_run : RunOutcome
guide_run = run_of guide_given 17 guide_world

-- 65,535 by 32,767 at the limits: CNF is 1, and RPT *+ stands in B0 at FFFFh (data address 02FFh), so that PC turns over to SUBC * at 0000h; RPT's operand
-- at 0300h, whose low 8 bits are 15, moves AR1 to the divisor at 0301h; OVM, OV and MID are 1 at the start
unfoldable pub limit_given : Given
limit_given = given (0x4780 ∷ replicate 4095 0) []

unfoldable pub limit_world : World
limit_world = record {
  m = with_pc (with_mid (with_cnf (with_ov (with_ovm (with_acc (with_arp (with_register reset_machine 1 0x300) 1) 65535) 1) 1) 1) 1) 0xFFFF;
  «data» = sets (replicate 4096 0) 0x2FF (0x4BA0 ∷ 0xAB0F ∷ 32767 ∷ []);
  output = [];
}

unfoldable pub limit_run : RunOutcome
limit_run = run_of limit_given 17 limit_world

-- answer, steps, ACC, OV, PC and AR1 of a run
abbrev pub end_of : RunOutcome → List ℕ
end_of r = number_of r.answer ∷ r.steps ∷ r.world.m.acc ∷ r.world.m.ov ∷ r.world.m.pc ∷ register r.world.m 1 ∷ []

pub record ExposureCases : Type 0 where
  pub guide_code : ExposureCode guide_given 5 guide_world
  -- quotient 6, remainder 3: "Answer reached after 16 SUBC instructions"
  pub guide_end : end_of guide_run ≡ 0 ∷ 17 ∷ 0x0003_0006 ∷ 0 ∷ 2 ∷ 0 ∷ []
  pub limit_code : ExposureCode limit_given 32767 limit_world
  -- quotient 2, remainder 1
  pub limit_end : end_of limit_run ≡ 0 ∷ 17 ∷ 0x0001_0002 ∷ 1 ∷ 1 ∷ 0x301 ∷ []
