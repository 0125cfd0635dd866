-- The stack "is pushed and popped in the place where the machine holds it" (document 01).
use Rattle.std.specs.Prelude.{ℕ}
use Rattle.hardware_stack.specs.Stack.{push_of, pop_of, top_of}
use Rattle.machine.specs.declared.Machine.{Machine}
use Rattle.machine.specs.declared.AfterPop.{AfterPop}
use Rattle.machine.specs.Cells.{with_stack}

-- the machine after a push, and after a pop with the word that it gives
abbrev pub push_on : Machine → ℕ → Machine
push_on m word = with_stack m (push_of m.stack word)

abbrev pub pop_on : Machine → AfterPop
pop_on m = record { m = with_stack m (pop_of m.stack); word = top_of m.stack }
