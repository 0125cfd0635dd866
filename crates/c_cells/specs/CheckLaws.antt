-- What the checks of a slice of cells say of it.
use Rattle.std.specs.Prelude.{Result, Ok, Err, is_ok, ◌≡◌, refl, Bool, true, false, cond, List, ℕ, eqb, length}
use Rattle.std.proofs.lemmas.Bool.{false≢true}
use Rattle.std.proofs.Common.{sym, ap, eqb-true, eq-eqb}
use Rattle.machine.specs.declared.Machine.{Machine}
use Rattle.machine.specs.Table.{cell_count}
use Rattle.answers.specs.declared.Refusal.{Refusal}
use Rattle.answers.specs.Answers.{where_done, Answer, Done, CellOutOfRange, SlicesUnfit}
use Rattle.answers.specs.Numbers.{is_done}
use Rattle.c_cells.specs.Cells.{cells_of, machine_from, machine_of}
use Rattle.c_cells.specs.Checks.{within_limits, cells_answer, checked_machine, cells_after}

-- cells that pass both checks
pub record CellsKept (cells : List ℕ) : Type 0 where
  pub count : length cells ≡ cell_count
  pub within : within_limits cell_count cells ≡ true

pub cells_kept : (cells : List ℕ) → is_done (cells_answer cells) ≡ true → CellsKept cells
unfolding cells_answer
cells_kept cells h = by (eqb (length cells) cell_count) refl (within_limits cell_count cells) refl h
  where
    by : (n : Bool) → eqb (length cells) cell_count ≡ n → (w : Bool) → within_limits cell_count cells ≡ w → is_done (cond n (cond w Done CellOutOfRange) SlicesUnfit) ≡ true → CellsKept cells
    by true e true f d = record { count = eqb-true _ _ e; within = f }
    by true e false f d = absurd (false≢true d)
    by false e w f d = absurd (false≢true d)

pub kept_done : (cells : List ℕ) → CellsKept cells → cells_answer cells ≡ Done
unfolding cells_answer
kept_done cells k = simp (eq-eqb _ _ k.count, k.within)

-- the machine of as many cells as there are
pub machine_of_all : (cells : List ℕ) → length cells ≡ cell_count → machine_of cells ≡ machine_from cells
unfolding machine_of
machine_of_all cells h = simp (eq-eqb _ _ h)

-- a machine's cells written over them
pub kept_after : (cells : List ℕ) (m : Machine) → is_done (cells_answer cells) ≡ true → cells_after cells m ≡ cells_of m
unfolding cells_after
kept_after cells m h = simp (eq-eqb _ _ (cells_kept cells h).count)

-- ---- what a machine, or a refusal, of cells tells of them

machine_in : Machine → Result Machine Refusal → Machine
machine_in d (Ok m) = m
machine_in d (Err refusal) = d

pub machine_passed : (cells : List ℕ) {m : Machine} → Ok m ≡ checked_machine cells → (is_done (cells_answer cells) ≡ true) × (m ≡ machine_of cells)
unfolding checked_machine machine_in
machine_passed cells {m} h = by (cells_answer cells) refl h
  where
    by : (a : Answer) → cells_answer cells ≡ a → Ok m ≡ where_done a (machine_of cells) → (is_done (cells_answer cells) ≡ true) × (m ≡ machine_of cells)
    by (Ok tt) e h = (ap is_done e, ap (machine_in m) h)
    by (Err refusal) e h = absurd (false≢true (sym (ap is_ok h)))
