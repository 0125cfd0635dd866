-- What a step sees and changes.
use Rattle.std.specs.Prelude.{List, ℕ}
use Rattle.machine.specs.declared.Machine.{Machine}
use Rattle.answers.specs.Answers.{Answer}

-- the cells, the data words and the output words; the ROM and the input words are given beside it
pub record World : Type 0 where
  pub m : Machine
  pub «data» : List ℕ
  pub output : List ℕ

-- the world after a step, and its answer
pub record Outcome : Type 0 where
  pub world : World
  pub answer : Answer

-- the world after a run, how many steps were done, and the last answer
pub record RunOutcome : Type 0 where
  pub world : World
  pub steps : ℕ
  pub answer : Answer
