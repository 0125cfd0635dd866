-- The exposure code divides: a law of its operand.
use Rattle.std.specs.Prelude.{◌≡◌, Some}
use Rattle.std.proofs.Math.Path.{refl}
use Rattle.machine.specs.declared.Machine.{Machine}
use Rattle.machine.specs.CellLaws.{register_back}
use Rattle.operands.specs.declared.Address.{Address}
use Rattle.pages.specs.Addressing.{moved, pointed, modified, addressed}
use Rattle.division.specs.Exposure.{Still, direct, indirect}

-- ---- one pass with an operand that changes nothing

pub still_machine : (a : Address) → Still a → (m : Machine) → addressed (Some a) m ≡ m
unfolding addressed modified pointed moved
still_machine _ (direct offset) m = refl
still_machine _ indirect m = register_back m m.arp
