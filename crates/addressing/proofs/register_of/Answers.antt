-- Not routine: there are eight registers, and past the end of the list the definition reads 0 too.
use native.Mathlib.Omega.{arith}
use mathlib.Core.Path.{◌≡◌, sym}
use lib.ListN.{length, get_or-eq_default}
use borrow.Author.Rules.{rules}
use Rattle.addressing.proofs.register_of.Goals as goal

pub returns-else-at-lt8 : goal.returns-else-at-lt8
returns-else-at-lt8 c = sym (get_or-eq_default c.args.m.ar 0 {n = c.args.i} (let h : length c.args.m.ar ≡ 8 = search rules in omega arith))
