-- What is said of the cells by their names: what a setter does, and the ranges as facts.
use Rattle.std.specs.Prelude.{◌≡◌, List, [], ◌∷◌, ℕ, ◌≤◌, length}
use Prim.Native.String.{String}
use Rattle.machine.specs.declared.Machine.{Machine}
use Rattle.machine.specs.Table.{Cell, cells, in_column, only, rows_held}
use Rattle.machine.specs.Cells.{with_acc, with_p, with_t, with_pc, with_pfc, with_arp, with_arb, with_dp, with_pm, with_ov, with_ovm, with_sxm, with_c, with_cnf, with_mid, with_rptc, with_input_cursor, with_output_cursor}

-- ---- setters

-- The cell reads as what was put in it, and putting back what it held restores the whole machine.
pub record Sets (A : Type 0) (cell : Machine → A) (with : Machine → A → Machine) : Type 0 where
  pub gives : (m : Machine) (x : A) → cell (with m x) ≡ x
  pub restores : (m : Machine) (x : A) → with (with m x) (cell m) ≡ m

-- the setters of the single cells
pub record Setter : Type 0 where
  pub cell : String
  pub with : Machine → ℕ → Machine

abbrev setter : String → (Machine → ℕ → Machine) → Setter
setter cell with = record { cell = cell; with = with }

abbrev pub setters : List Setter
setters =
    setter "ACC" with_acc ∷
    setter "P" with_p ∷
    setter "T" with_t ∷
    setter "PC" with_pc ∷
    setter "PFC" with_pfc ∷
    setter "ARP" with_arp ∷
    setter "ARB" with_arb ∷
    setter "DP" with_dp ∷
    setter "PM" with_pm ∷
    setter "OV" with_ov ∷
    setter "OVM" with_ovm ∷
    setter "SXM" with_sxm ∷
    setter "C" with_c ∷
    setter "CNF" with_cnf ∷
    setter "MID" with_mid ∷
    setter "RPTC" with_rptc ∷
    setter "input cursor" with_input_cursor ∷
    setter "output cursor" with_output_cursor ∷
    []

-- ---- ranges

-- the words of the cell of a name, and the one word of a single cell
abbrev pub cell_words : Machine → String → List ℕ
cell_words m name = in_column (λ c. c.held m) [] cells name

abbrev pub cell_number : Machine → String → ℕ
cell_number m name = only (cell_words m name)

-- the largest number of the cell of a name
abbrev pub largest_of : String → ℕ
largest_of name = in_column (λ c. c.largest) 0 cells name

-- no word is above a limit
abbrev pub AllMost : ℕ → List ℕ → Type 0
AllMost limit [] = Unit {0}
AllMost limit (x ∷ xs) = (x ≤ limit) × AllMost limit xs

-- each row has as many words as its cell, and none above the limit of its cell's name
abbrev pub RowsWithin : (String → ℕ) → List Cell → List (List ℕ) → Type 0
RowsWithin limit [] rows = Unit {0}
RowsWithin limit (c ∷ cs) [] = ⊥
RowsWithin limit (c ∷ cs) (row ∷ rows) = ((length row ≡ c.count) × AllMost (limit c.name) row) × RowsWithin limit cs rows

pub record Within (limit : String → ℕ) (m : Machine) : Type 0 where
  pub rows : RowsWithin limit cells (rows_held m)

-- what a machine that passes check 1 is known to hold
abbrev pub Ranged : Machine → Type 0
Ranged m = Within largest_of m
