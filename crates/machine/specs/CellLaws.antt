-- Laws of the setters, each once over the name of the cell.
use Rattle.std.specs.Prelude.{◌≡◌, refl, Bool, true, false, List, [], ◌∷◌, ℕ, T, eqb}
use Rattle.std.proofs.Common.{sym, ap, ◌∙◌, eqb→eq}
use Prim.Native.String.{String}
use Rattle.std.proofs.lemmas.List.{set-get_or}
use lib.Text.{eqt, eqt→eq, eqt_refl}
use Rattle.hardware_stack.specs.declared.Stack.{Stack}
use Rattle.machine.specs.declared.Machine.{Machine}
use Rattle.machine.specs.Table.{Cell, cells, chosen, only, in_column, count_of, rows_held}
use Rattle.machine.specs.Cells.{built, put, put_words, with_ar, with_stack, register, with_register}
use Rattle.machine.specs.Facts.{Sets, Setter, setters, cell_words, cell_number}

-- ---- a machine that is built holds under each name what was given for it

-- the row of this name among rows
abbrev row_named : List Cell → List (List ℕ) → String → List ℕ
row_named [] rows name = []
row_named (c ∷ cs) [] name = []
row_named (c ∷ cs) (row ∷ rows) name = chosen (eqt c.name name) row (row_named cs rows name)

-- what is given for a name, as a row
abbrev pub row_given : (String → ℕ) → (String → List ℕ) → String → Cell → List ℕ
row_given number words name c = chosen (eqb c.count 1) (number name ∷ []) (words name)

-- the rows of a machine that is built
abbrev pub rows_built : (String → ℕ) → (String → List ℕ) → List Cell → List (List ℕ)
rows_built number words [] = []
rows_built number words (c ∷ cs) = row_given number words c.name c ∷ rows_built number words cs

module _ (number : String → ℕ) (words : String → List ℕ) where
  -- the machine built from these
  abbrev pub built_by : Machine
  built_by = built (λ n field. number n) (λ n field. words n)

  pub rows_built_lem : rows_held built_by ≡ rows_built number words cells
  rows_built_lem = refl

  named : (cs : List Cell) (name : String) → row_named cs (rows_built number words cs) name ≡ in_column (row_given number words name) [] cs name
  named [] name = refl
  named (c ∷ cs) name = by (eqt c.name name) (eqt→eq c.name name) (named cs name)
    where
      by : (t : Bool) → (T t → c.name ≡ name) → {before after : List ℕ} → before ≡ after
          → chosen t (row_given number words c.name c) before ≡ chosen t (row_given number words name c) after
      by true e h = ap (λ (n : String). row_given number words n c) (e tt)
      by false e h = h

  pub built_holds : (name : String) → cell_words built_by name ≡ in_column (row_given number words name) [] cells name
  built_holds name = named cells name

-- ---- the setters

same_name : (name : String) {A : Type 0} (x y : A) → chosen (eqt name name) x y ≡ x
same_name name x y = by (eqt name name) (eqt_refl name)
  where
    by : (t : Bool) → T t → chosen t x y ≡ x
    by true h = refl
    by false h = absurd h

-- a column that goes by the count, at a name whose cell has this count
by_count : (column : ℕ → List ℕ) (k : ℕ) → (T (eqb 0 k) → ⊥) → (cs : List Cell) (name : String) → T (eqb (in_column (λ c. c.count) 0 cs name) k)
    → in_column (λ c. column c.count) [] cs name ≡ column k
by_count column k some [] name h = absurd (some h)
by_count column k some (c ∷ cs) name h = by (eqt c.name name) _ _ (by_count column k some cs name) h
  where
    by : (t : Bool) (n : ℕ) (row : List ℕ) → (T (eqb n k) → row ≡ column k) → T (eqb (chosen t c.count n) k) → chosen t (column c.count) row ≡ column k
    by true n row next h = ap column (eqb→eq c.count k h)
    by false n row next h = next h

-- what was put and then put back, at any name
put_back : (A : Type 0) (held : String → A) (name n : String) (x : A) → chosen (eqt n name) (held name) (chosen (eqt n name) x (held n)) ≡ held n
put_back A held name n x = by (eqt n name) (eqt→eq n name)
  where
    by : (t : Bool) → (T t → n ≡ name) → chosen t (held name) (chosen t x (held n)) ≡ held n
    by true e = ap held (sym (e tt))
    by false e = refl

-- for each single cell
pub number_sets : (name : String) → T (eqb (count_of name) 1) → Sets ℕ (λ (m : Machine). cell_number m name) (put name)
number_sets name h = record {
  gives = λ m x.
      ap only (built_holds (λ n. chosen (eqt n name) x (cell_number m n)) (cell_words m) name)
      ∙ ap only (by_count (λ k. chosen (eqb k 1) (chosen (eqt name name) x (cell_number m name) ∷ []) (cell_words m name)) 1 (λ e. e) cells name h)
      ∙ same_name name x (cell_number m name);
  restores = λ m x. λ i. built_by (λ n. put_back ℕ (cell_number m) name n x i) (cell_words m);
}

-- and for AR and the stack
pub words_sets : (name : String) → T (eqb (count_of name) 8) → Sets (List ℕ) (λ (m : Machine). cell_words m name) (put_words name)
words_sets name h = record {
  gives = λ m x.
      built_holds (cell_number m) (λ n. chosen (eqt n name) x (cell_words m n)) name
      ∙ by_count (λ k. chosen (eqb k 1) (cell_number m name ∷ []) (chosen (eqt name name) x (cell_words m name))) 8 (λ e. e) cells name h
      ∙ same_name name x (cell_words m name);
  restores = λ m x. λ i. built_by (cell_number m) (λ n. put_back (List ℕ) (cell_words m) name n x i);
}

pub ar_sets : Sets (List ℕ) (λ (m : Machine). m.ar) with_ar
ar_sets = words_sets "AR" tt

-- a register that is given what it holds
pub register_back : (m : Machine) (i : ℕ) → with_register m i (register m i) ≡ m
register_back m i = ap (with_ar m) (set-get_or m.ar i 0)

pub stack_sets : Sets Stack (λ (m : Machine). m.stack) with_stack
stack_sets = record { gives = λ m x. refl; restores = λ m x. refl }

-- ---- every single cell has its setter, in the table's order, and every setter sets its cell

unfoldable pub singles : List Cell → List String
singles [] = []
singles (c ∷ cs) = chosen (eqb c.count 1) (c.name ∷ singles cs) (singles cs)

unfoldable pub cells_set : List Setter → List String
cells_set [] = []
cells_set (s ∷ ss) = s.cell ∷ cells_set ss

pub each_has_setter : cells_set setters ≡ singles cells
unfolding singles cells_set
each_has_setter = refl

abbrev pub EachSets : List Setter → Type 0
EachSets [] = Unit {0}
EachSets (s ∷ ss) = Sets ℕ (λ (m : Machine). cell_number m s.cell) s.with × EachSets ss

all_single : List Setter → Bool
all_single [] = true
all_single (s ∷ ss) = chosen (eqb (count_of s.cell) 1) (all_single ss) false

-- the setters as the names of their cells make them
by_name : List Setter → List Setter
by_name [] = []
by_name (s ∷ ss) = record { cell = s.cell; with = put s.cell } ∷ by_name ss

named_set : (ss : List Setter) → T (all_single ss) → EachSets (by_name ss)
unfolding by_name all_single
named_set [] h = tt
named_set (s ∷ ss) h = by (eqb (count_of s.cell) 1) (number_sets s.cell) (named_set ss) h
  where
    by : (t : Bool) → (T t → Sets ℕ (λ (m : Machine). cell_number m s.cell) (put s.cell)) → (T (all_single ss) → EachSets (by_name ss))
        → T (chosen t (all_single ss) false) → Sets ℕ (λ (m : Machine). cell_number m s.cell) (put s.cell) × EachSets (by_name ss)
    by true first rest h = (first tt, rest h)
    by false first rest h = absurd h

pub each_sets : EachSets setters
unfolding by_name all_single
each_sets = named_set setters tt
