-- The plan of a step or of one pass, by value: what it makes of the machine, its answer, its one store, and what it counts in external RAM.
use Rattle.machine.specs.declared.Machine.{Machine}
use Rattle.answers.specs.Answers.{Answer}
use Rattle.steps.specs.declared.Write.{Write}
use Rattle.steps.specs.declared.Outside.{Outside}

pub record Plan : Type 0 where
  pub m : Machine
  pub answer : Answer
  pub write : Write
  pub outside : Outside
