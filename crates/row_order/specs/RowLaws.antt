-- The row order of the transform: proofs.
use Rattle.std.specs.Prelude.{◌≡◌, refl, true, List, [], ◌∷◌, ℕ, zero, suc, ◌+◌, ◌*◌, ◌%◌, ◌^◌, ◌≤◌, get_or, set}
use Rattle.std.proofs.Common.{sym, ◌∙◌, ap, arith, get_or-set_same, get_or-set_other, set-set}
use Rattle.alu.specs.Registers.{wrapped_sum, reversed, reversed_sum, reversed_difference}
use Rattle.alu.specs.ReversedLaws.{reversed_zero, reversed_again, zero_added, difference_of_itself}
use Rattle.machine.specs.declared.Machine.{Machine}
use Rattle.machine.specs.Cells.{register, with_ar, with_register}
use Rattle.machine.specs.CellLaws.{register_back}
use Rattle.machine.specs.Range.{in_range}
use Rattle.machine.specs.RangeLaws.{ranged, most, word_most, words_count}
use Rattle.pages.specs.Addressing.{moved, pointed, modified}
use Rattle.row_order.specs.RowOrder.{ClearsItself, NotRestored, ZeroIndexAdded, row_after}

-- ---- one register of a machine

-- only the last number put into a register stays
pub put_again : (m : Machine) (i x y : ℕ) → with_register (with_register m i x) i y ≡ with_register m i y
put_again m i x y = ap (with_ar m) (set-set m.ar i x y)

module _ (m : Machine) (ok : in_range m ≡ true) (other : 1 ≤ m.arp) where
  -- the register that ARP points at holds what is put there, and AR0 stays
  pub holds : (x : ℕ) → register (with_register m m.arp x) m.arp ≡ x
  holds x = get_or-set_same m.ar m.arp x 0 (omega (arith, most (ranged m ok) "ARP", words_count (ranged m ok) "AR"))

  pub index_stays : (x : ℕ) → register (with_register m m.arp x) 0 ≡ register m 0
  index_stays x = get_or-set_other m.ar m.arp 0 x 0 (λ e. omega arith)

pub clears_itself : ClearsItself
unfolding modified pointed moved
clears_itself m e =
    let sum : ℕ = reversed_sum (register m m.arp) (register m 0) in
    let n : Machine = with_register m m.arp sum in
    ap (λ (i : ℕ). with_register n m.arp (reversed_difference (register n i) (register n 0))) e
    ∙ ap (with_register n m.arp) (difference_of_itself (register n 0)) ∙ put_again m m.arp sum 0 ∙ ap (λ (i : ℕ). with_register m i 0) e

-- in a list that holds more than 0 at its front, putting 0 there changes it
pub not_restored : NotRestored
not_restored m e some same = by m.ar some (ap (λ (n : Machine). register n 0) (sym (clears_itself m e) ∙ same))
  where
    by : (l : List ℕ) → 1 ≤ get_or l 0 0 → get_or (set l 0 0) 0 0 ≡ get_or l 0 0 → ⊥
    by [] h f = omega arith
    by (x ∷ l) h f = omega arith

pub zero_index_added : ZeroIndexAdded
unfolding modified pointed moved
zero_index_added m ok e =
    let r : ℕ = register m m.arp in
    ap (λ (index : ℕ). with_register m m.arp (reversed_sum r index)) e
    ∙ ap (with_register m m.arp) (zero_added r (omega (arith, word_most (ranged m ok) "AR" m.arp))) ∙ register_back m m.arp

-- ---- the cycle

pub row_is : (j index : ℕ) → row_after j index ≡ reversed 16 (j * reversed 16 index % 2 ^ 16)
unfolding row_after moved reversed_sum wrapped_sum
row_is zero index = sym (ap (reversed 16) (omega arith) ∙ reversed_zero 16)
row_is (suc j) index =
    let total : ℕ = j * reversed 16 index in
    let one_more : row_after (suc j) index ≡ reversed 16 ((reversed 16 (row_after j index) + reversed 16 index) % 2 ^ 16) = refl in
    one_more ∙ ap (reversed 16) (rw (row_is j index, reversed_again total) (omega arith))
