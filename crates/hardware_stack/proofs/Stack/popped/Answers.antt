-- Not routine: a list of eight words is its eight elements, so that the code's single reads make the definition's part of the list.
use Rattle.hardware_stack.proofs.Moves.{pops}
use borrow.Author.Rules.{rules}
use Rattle.hardware_stack.proofs.Stack.popped.Goals as goal

pub returns : goal.returns
returns c = pops c.args.self (search rules)
