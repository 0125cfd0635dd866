-- What a step and a run keep: the cells in their ranges, the slices fitting, and every word within its width.
use Rattle.std.specs.Prelude.{◌≡◌, true, List, [], ◌∷◌, ℕ, ◌^◌, ◌≤◌, ◌<◌, length}
use Rattle.machine.specs.Reset.{reset_machine}
use Rattle.machine.specs.Range.{in_range}
use Rattle.answers.specs.Answers.{Done}
use Rattle.answers.specs.Numbers.{number_of}
use Rattle.board.specs.Slices.{slices_fit}
use Rattle.board.specs.Given.{Given}
use Rattle.steps.specs.World.{World}
use Rattle.steps.specs.Step.{step_of, run_of}
use Rattle.laws.specs.Laws.{AllDone}

-- every word of a list is of 16 bits
abbrev pub WordsFit : List ℕ → Type 0
WordsFit [] = Unit {0}
WordsFit (x ∷ xs) = (x < 2 ^ 16) × WordsFit xs

-- checks 1 and 2 are passed, and every word of the slices is within its width
pub record WorldInRange (g : Given) (w : World) : Type 0 where
  pub in_range : in_range w.m ≡ true
  pub slices_fit : slices_fit w.m g.rom w.«data» g.input (length w.output) ≡ true
  pub rom_words : WordsFit g.rom
  pub input_words : WordsFit g.input
  pub data_words : WordsFit w.«data»
  pub output_words : WordsFit w.output

-- the machine after reset is so, with lent slices that fit
abbrev pub StartInRange : Type 0
StartInRange = (g : Given) («data» output : List ℕ) → length g.rom ≡ 4096 → length «data» ≡ 4096 → length g.input ≤ 1024 → length output ≤ 1024
    → WordsFit g.rom → WordsFit «data» → WordsFit g.input → WordsFit output
    → WorldInRange g (record { m = reset_machine; «data» = «data»; output = output })

-- a step keeps the world in range
abbrev pub StepInRange : Type 0
StepInRange = (g : Given) (w : World) → WorldInRange g w → WorldInRange g (step_of g w).world

-- and a run, which so never meets 1 or 2 on the way
pub record RunInRange (g : Given) (budget : ℕ) (w : World) : Type 0 where
  pub world_in_range : WorldInRange g (run_of g budget w).world
  pub never_1 : number_of (run_of g budget w).answer ≡ 1 → ⊥
  pub never_2 : number_of (run_of g budget w).answer ≡ 2 → ⊥
  -- where no step was refused the last answer is 0
  pub done_answer : AllDone g budget w → (run_of g budget w).answer ≡ Done

abbrev pub RunsInRange : Type 0
RunsInRange = (g : Given) (budget : ℕ) (w : World) → WorldInRange g w → RunInRange g budget w
