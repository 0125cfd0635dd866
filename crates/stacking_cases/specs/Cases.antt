-- Two stacks of 128 frames and one of 127, as programs in ROM: RPTK, MAC with its table at 0100h, APAC; the data word stands at 0060h.
use Rattle.std.specs.Prelude.{List, [], ◌∷◌, ◌++◌, ℕ, ◌+◌, set, replicate}
use Rattle.machine.specs.Cells.{with_pm, with_ovm}
use Rattle.machine.specs.Reset.{reset_machine}
use Rattle.steps.specs.World.{World, RunOutcome}
use Rattle.steps.specs.Step.{run_of}
use Rattle.board.specs.Given.{given}

-- the table: 128 words that are all -32768 but perhaps the last
abbrev table : ℕ → List ℕ
table last = replicate 127 0x8000 ++ (last ∷ [])

-- RPTK k; MAC 0100h, 60h; APAC
unfoldable pub rom_with : ℕ → ℕ → List ℕ
rom_with k last = ((0xCB00 + k) ∷ 0x5D60 ∷ 0x0100 ∷ 0xCE15 ∷ []) ++ replicate 252 0 ++ table last ++ replicate 3712 0

unfoldable pub world_with : ℕ → World
world_with ovm = record { m = with_ovm (with_pm reset_machine 3) ovm; «data» = set (replicate 4096 0) 0x60 0x8000; output = [] }

-- the run of a stack of k + 1 frames
unfoldable pub run_with : ℕ → ℕ → ℕ → RunOutcome
run_with k last ovm = run_of (given (rom_with k last) []) (k + 3) (world_with ovm)
