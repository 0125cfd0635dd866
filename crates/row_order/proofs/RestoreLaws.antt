-- Adding and then subtracting, and the register that ARP points at: proofs over RowLaws.antt of specs/.
use Rattle.std.specs.Prelude.{◌≡◌, true, ℕ, zero, suc, ◌≤◌, None}
use Rattle.std.proofs.Common.{sym, ◌∙◌, ap, arith}
use Rattle.alu.specs.Registers.{reversed_sum}
use Rattle.alu.specs.ReversedLaws.{sum_undone}
use Rattle.machine.specs.declared.Machine.{Machine}
use Rattle.machine.specs.Cells.{register, with_register}
use Rattle.machine.specs.CellLaws.{register_back}
use Rattle.machine.specs.Range.{in_range}
use Rattle.machine.specs.RangeLaws.{ranged, word_most}
use Rattle.operands.specs.declared.Modification.{Modification}
use Rattle.operands.specs.declared.Modification.TheVariants.{PlusReversed, MinusReversed}
use Rattle.pages.specs.Addressing.{moved, pointed, modified}
use Rattle.row_order.specs.RowOrder.{index_added, Restores, row_after, index_added_times, OneRegister}
use Rattle.row_order.specs.RowLaws.{put_again, holds, index_stays}

module _ (m : Machine) (ok : in_range m ≡ true) (other : 1 ≤ m.arp) where
  -- a modification of what was put there
  moves : (way : Modification) (x : ℕ)
      → modified (record { modification = way; next = None }) (with_register m m.arp x) ≡ with_register m m.arp (moved way x (register m 0))
  unfolding modified pointed
  moves way x = rw (holds m ok other x, index_stays m ok other x) (put_again m m.arp x (moved way x (register m 0)))

pub restores : Restores
unfolding modified pointed moved
restores m ok other =
    let r : ℕ = register m m.arp in
    moves m ok other MinusReversed (reversed_sum r (register m 0))
    ∙ ap (with_register m m.arp) (sum_undone r (register m 0) (omega (arith, word_most (ranged m ok) "AR" m.arp))) ∙ register_back m m.arp

-- ---- the same of a machine

pub one_register : OneRegister
unfolding index_added_times row_after moved
one_register zero m ok other e = sym (ap (with_register m m.arp) (sym e) ∙ register_back m m.arp)
one_register (suc j) m ok other e = ap index_added (one_register j m ok other e) ∙ moves m ok other PlusReversed (row_after j (register m 0))
