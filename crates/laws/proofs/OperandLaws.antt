-- An operand's modification changes registers, ARP and ARB: what programs work with besides is as it was.
use Rattle.std.specs.Prelude.{◌≡◌, refl, ℕ, Option, Some, None}
use Rattle.machine.specs.declared.Machine.{Machine}
use Rattle.operands.specs.declared.Address.{Address}
use Rattle.operands.specs.declared.Address.TheVariants as Mode
use Rattle.pages.specs.Addressing.{pointed, modified, addressed}

-- the cells that programs work with besides
pub record Alike (m n : Machine) : Type 0 where
  pub acc : n.acc ≡ m.acc
  pub p : n.p ≡ m.p
  pub ov : n.ov ≡ m.ov
  pub ovm : n.ovm ≡ m.ovm
  pub pm : n.pm ≡ m.pm
  pub cnf : n.cnf ≡ m.cnf
  pub pc : n.pc ≡ m.pc
  pub rptc : n.rptc ≡ m.rptc

alike : (m : Machine) → Alike m m
alike m = record { acc = refl; p = refl; ov = refl; ovm = refl; pm = refl; cnf = refl; pc = refl; rptc = refl }

pointed_alike : (next : Option ℕ) (m n : Machine) → Alike m n → Alike m (pointed next n)
unfolding pointed
pointed_alike None m n a = a
pointed_alike (Some arp) m n a = record { acc = a.acc; p = a.p; ov = a.ov; ovm = a.ovm; pm = a.pm; cnf = a.cnf; pc = a.pc; rptc = a.rptc }

-- an operand's modification touches none of them
pub operand_alike : (o : Option Address) (m : Machine) → Alike m (addressed o m)
unfolding addressed modified
operand_alike None m = alike m
operand_alike (Some (Mode.Direct offset)) m = alike m
operand_alike (Some (Mode.Indirect i)) m =
    pointed_alike i.next m _ (record { acc = refl; p = refl; ov = refl; ovm = refl; pm = refl; cnf = refl; pc = refl; rptc = refl })
