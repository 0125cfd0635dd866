-- Check 1's test and its facts say the same; what the facts tell of a cell by its name, and what a setter keeps.
use Rattle.std.specs.Prelude.{◌≡◌, Bool, true, false, ◌&&◌, List, [], ◌∷◌, ℕ, zero, suc, ◌+◌, ◌^◌, ◌≤◌, T, ltb, eqb, length, get_or}
use Rattle.std.proofs.Math.Path.{refl}
use Rattle.std.proofs.Common.{sym, ap, ◌∙◌, subst, arith, eqb→eq, leb-true, le-leb, eqb-true, eq-eqb}
use Rattle.std.proofs.lemmas.Bool.{false≢true}
use Prim.Native.String.{String}
use lib.Text.{eqt, eqt→eq}
use Rattle.basic_laws.specs.Tests.{both_hold}
use Rattle.machine.specs.declared.Machine.{Machine}
use Rattle.machine.specs.Table.{Cell, cells, chosen, only, count_of, in_column, rows_held_of, rows_held}
use Rattle.machine.specs.Cells.{put, put_words}
use Rattle.machine.specs.Reset.{reset_machine}
use Rattle.machine.specs.Range.{none_above, row_in_range, rows_in_range, in_range}
use Rattle.machine.specs.Facts.{largest_of, cell_words, cell_number, AllMost, RowsWithin, Within, Ranged}

-- ---- the test, and the facts

-- the count and the largest number of each row are those that its name finds
own_rows : List Cell → Bool
own_rows [] = true
own_rows (c ∷ cs) = (eqb (count_of c.name) c.count && eqb (largest_of c.name) c.largest) && own_rows cs

record Own (c : Cell) (cs : List Cell) : Type 0 where
  own_count : count_of c.name ≡ c.count
  own_largest : largest_of c.name ≡ c.largest
  others : own_rows cs ≡ true

own : (c : Cell) (cs : List Cell) → own_rows (c ∷ cs) ≡ true → Own c cs
unfolding own_rows
own c cs o =
    let b = both_hold _ _ o in
    let r = both_hold (eqb (count_of c.name) c.count) _ b.0 in
    record { own_count = eqb-true _ _ r.0; own_largest = eqb-true _ _ r.1; others = b.1 }

all_most : (limit : ℕ) (xs : List ℕ) → none_above limit xs ≡ true → AllMost limit xs
all_most limit [] h = tt
all_most limit (x ∷ xs) h = let b = both_hold (none_above limit xs) _ h in (leb-true _ _ b.1, all_most limit xs b.0)

none_above_lem : (limit : ℕ) (xs : List ℕ) → AllMost limit xs → none_above limit xs ≡ true
none_above_lem limit [] h = refl
none_above_lem limit (x ∷ xs) h = rw (none_above_lem limit xs h.1, le-leb _ _ h.0) refl

-- the first row and the others
pub record RowsKept (c : Cell) (row : List ℕ) (cs : List Cell) (rows : List (List ℕ)) : Type 0 where
  pub row_count : length row ≡ c.count
  pub row_most : AllMost c.largest row
  pub rows_kept : rows_in_range cs rows ≡ true

pub rows_first : (c : Cell) (row : List ℕ) (cs : List Cell) (rows : List (List ℕ)) → rows_in_range (c ∷ cs) (row ∷ rows) ≡ true → RowsKept c row cs rows
rows_first c row cs rows h =
    let b = both_hold (row_in_range c row) _ h in
    let r = both_hold (eqb (length row) c.count) _ b.0 in
    record { row_count = eqb-true _ _ r.0; row_most = all_most c.largest row r.1; rows_kept = b.1 }

pub rows_more : (c : Cell) (row : List ℕ) (cs : List Cell) (rows : List (List ℕ)) → RowsKept c row cs rows → rows_in_range (c ∷ cs) (row ∷ rows) ≡ true
rows_more c row cs rows k = rw (eq-eqb _ _ k.row_count, none_above_lem c.largest row k.row_most, k.rows_kept) refl

rows_ranged : (cs : List Cell) (rows : List (List ℕ)) → own_rows cs ≡ true → rows_in_range cs rows ≡ true → RowsWithin largest_of cs rows
rows_ranged [] rows o h = tt
rows_ranged (c ∷ cs) [] o h = absurd (false≢true h)
rows_ranged (c ∷ cs) (row ∷ rows) o h =
    let k = rows_first c row cs rows h in
    ((k.row_count, rw (own c cs o).own_largest k.row_most), rows_ranged cs rows (own c cs o).others k.rows_kept)

rows_in_range_lem : (cs : List Cell) (rows : List (List ℕ)) → own_rows cs ≡ true → RowsWithin largest_of cs rows → rows_in_range cs rows ≡ true
rows_in_range_lem [] rows o w = refl
rows_in_range_lem (c ∷ cs) [] o w = absurd w
rows_in_range_lem (c ∷ cs) (row ∷ rows) o w =
    rows_more c row cs rows
    (record { row_count = w.0.0; row_most = rw (own c cs o).own_largest at w.0.1; rows_kept = rows_in_range_lem cs rows (own c cs o).others w.1 })

pub ranged : (m : Machine) → in_range m ≡ true → Ranged m
unfolding in_range own_rows
ranged m h = record { rows = rows_ranged cells (rows_held m) refl h }

-- and back
pub in_range_lem : (m : Machine) → Ranged m → in_range m ≡ true
unfolding in_range own_rows
in_range_lem m r = rows_in_range_lem cells (rows_held m) refl r.rows

pub reset_in_range : in_range reset_machine ≡ true
unfolding in_range reset_machine
reset_in_range = refl

-- ---- a cell by its name

most_at : (limit : ℕ) (xs : List ℕ) (k : ℕ) → AllMost limit xs → get_or xs k 0 ≤ limit
most_at limit [] k h = omega arith
most_at limit (x ∷ xs) zero h = h.0
most_at limit (x ∷ xs) (suc k) h = most_at limit xs k h.1

only_most : (limit : ℕ) (row : List ℕ) → AllMost limit row → only row ≤ limit
only_most limit [] h = omega arith
only_most limit (x ∷ xs) h = h.0

module _ (limit : String → ℕ) (m : Machine) where
  -- the row of a name is of its count and within its limit
  row_within : (cs : List Cell) (name : String) → RowsWithin limit cs (rows_held_of cs m)
      → (length (in_column (λ c. c.held m) [] cs name) ≡ in_column (λ c. c.count) 0 cs name) × AllMost (limit name) (in_column (λ c. c.held m) [] cs name)
  row_within [] name w = (refl, tt)
  row_within (c ∷ cs) name w = by (eqt c.name name) (eqt→eq c.name name) _ _ (row_within cs name w.1)
    where
      by : (t : Bool) → (T t → c.name ≡ name) → (row : List ℕ) (n : ℕ) → (length row ≡ n) × AllMost (limit name) row
          → (length (chosen t (c.held m) row) ≡ chosen t c.count n) × AllMost (limit name) (chosen t (c.held m) row)
      by true e row n h = (w.0.0, subst (λ (n : String). AllMost (limit n) (c.held m)) (e tt) w.0.1)
      by false e row n h = h

module _ {limit : String → ℕ} {m : Machine} (w : Within limit m) (name : String) where
  pub words_most : AllMost (limit name) (cell_words m name)
  words_most = (row_within limit m cells name w.rows).1

  pub words_count : length (cell_words m name) ≡ count_of name
  words_count = (row_within limit m cells name w.rows).0

  pub word_most : (k : ℕ) → get_or (cell_words m name) k 0 ≤ limit name
  word_most k = most_at (limit name) (cell_words m name) k words_most

  pub most : cell_number m name ≤ limit name
  most = only_most (limit name) (cell_words m name) words_most

-- ---- a setter keeps every cell within its limit where what is put is

-- rows with x in the single cell of a name, or with other words in AR or the stack
abbrev with_number : String → ℕ → List Cell → List (List ℕ) → List (List ℕ)
with_number name x [] rows = []
with_number name x (c ∷ cs) [] = []
with_number name x (c ∷ cs) (row ∷ rows) = chosen (eqb c.count 1) (chosen (eqt c.name name) x (only row) ∷ []) row ∷ with_number name x cs rows

abbrev with_words : String → List ℕ → List Cell → List (List ℕ) → List (List ℕ)
with_words name words [] rows = []
with_words name words (c ∷ cs) [] = []
with_words name words (c ∷ cs) (row ∷ rows) = chosen (eqb c.count 1) row (chosen (eqt c.name name) words row) ∷ with_words name words cs rows

module _ (limit : String → ℕ) (name : String) where
  -- a row of a cell
  abbrev RowWithin : Cell → List ℕ → Type 0
  RowWithin c row = (length row ≡ c.count) × AllMost (limit c.name) row

  number_row : (x : ℕ) → x ≤ limit name → (c : Cell) (row : List ℕ) → RowWithin c row → RowWithin c (chosen (eqb c.count 1) (chosen (eqt c.name name) x (only row) ∷ []) row)
  number_row x h c row w = by (eqb c.count 1) (eqb→eq c.count 1) (eqt c.name name) (eqt→eq c.name name)
    where
      by : (s : Bool) → (T s → c.count ≡ 1) → (t : Bool) → (T t → c.name ≡ name) → RowWithin c (chosen s (chosen t x (only row) ∷ []) row)
      by true one true e = (sym (one tt), (rw (e tt) h, tt))
      by true one false e = (sym (one tt), (only_most _ row w.1, tt))
      by false one t e = w

  number_rows : (x : ℕ) → x ≤ limit name → (cs : List Cell) (rows : List (List ℕ)) → RowsWithin limit cs rows → RowsWithin limit cs (with_number name x cs rows)
  number_rows x h [] rows w = tt
  number_rows x h (c ∷ cs) [] w = w
  number_rows x h (c ∷ cs) (row ∷ rows) w = (number_row x h c row w.0, number_rows x h cs rows w.1)

  module _ (words : List ℕ) (n : length words ≡ count_of name) (h : AllMost (limit name) words) where
    words_row : (c : Cell) → count_of c.name ≡ c.count → (row : List ℕ) → RowWithin c row → RowWithin c (chosen (eqb c.count 1) row (chosen (eqt c.name name) words row))
    words_row c own row w = by (eqb c.count 1) (eqt c.name name) (eqt→eq c.name name)
      where
        by : (s t : Bool) → (T t → c.name ≡ name) → RowWithin c (chosen s row (chosen t words row))
        by true t e = w
        by false true e = (n ∙ ap count_of (sym (e tt)) ∙ own, rw (e tt) h)
        by false false e = w

    words_rows : (cs : List Cell) (rows : List (List ℕ)) → own_rows cs ≡ true → RowsWithin limit cs rows → RowsWithin limit cs (with_words name words cs rows)
    words_rows [] rows o w = tt
    words_rows (c ∷ cs) [] o w = w
    words_rows (c ∷ cs) (row ∷ rows) o w = (words_row c (own c cs o).own_count row w.0, words_rows cs rows (own c cs o).others w.1)

module _ {limit : String → ℕ} {m : Machine} (w : Within limit m) (name : String) where
  pub put_within : {x : ℕ} → x ≤ limit name → Within limit (put name m x)
  put_within {x} h = record { rows = number_rows limit name x h cells (rows_held m) w.rows }

  pub put_words_within : (words : List ℕ) → length words ≡ count_of name → AllMost (limit name) words → Within limit (put_words name m words)
  unfolding own_rows
  put_words_within words n h = record { rows = words_rows limit name words n h cells (rows_held m) refl w.rows }

-- ---- the tests that code makes: those of the cells whose fields could hold more

abbrev tested : Cell → Bool
tested c = ltb (c.largest + 1) (2 ^ c.bits)

-- those tests, one after another, behind a test t
abbrev tests_from : Bool → List Cell → List (List ℕ) → Bool
tests_from t [] rows = t
tests_from t (c ∷ cs) [] = t
tests_from t (c ∷ cs) (row ∷ rows) = tests_from (chosen (tested c) (t && row_in_range c row) t) cs rows

-- the other rows are in range, since their fields hold no more
abbrev Besides : Bool → Type 0 → Type 0 → Type 0
Besides true A B = B
Besides false A B = A × B

abbrev pub FieldsHold : List Cell → List (List ℕ) → Type 0
FieldsHold [] rows = Unit {0}
FieldsHold (c ∷ cs) [] = ⊥
FieldsHold (c ∷ cs) (row ∷ rows) = Besides (tested c) ((length row ≡ c.count) × AllMost c.largest row) (FieldsHold cs rows)

and_true : (t : Bool) → t ≡ t && true
and_true true = refl
and_true false = refl

and_and : (t a b : Bool) → (t && a) && b ≡ t && (a && b)
and_and true a b = refl
and_and false a b = refl

tests_all : (t : Bool) (cs : List Cell) (rows : List (List ℕ)) → FieldsHold cs rows → tests_from t cs rows ≡ t && rows_in_range cs rows
tests_all t [] rows f = and_true t
tests_all t (c ∷ cs) [] f = absurd f
tests_all t (c ∷ cs) (row ∷ rows) f = by (tested c) (λ g. tests_all (t && row_in_range c row) cs rows g) (λ g. tests_all t cs rows g) f
  where
    by : (s : Bool)
        → (FieldsHold cs rows → tests_from (t && row_in_range c row) cs rows ≡ (t && row_in_range c row) && rows_in_range cs rows)
        → (FieldsHold cs rows → tests_from t cs rows ≡ t && rows_in_range cs rows)
        → Besides s ((length row ≡ c.count) × AllMost c.largest row) (FieldsHold cs rows)
        → tests_from (chosen s (t && row_in_range c row) t) cs rows ≡ t && (row_in_range c row && rows_in_range cs rows)
    by true next skip f = next f ∙ and_and t (row_in_range c row) (rows_in_range cs rows)
    by false next skip f = rw (eq-eqb _ _ f.0.0, none_above_lem c.largest row f.0.1) (skip f.1)

pub in_range_tested : (m : Machine) → FieldsHold cells (rows_held m) → tests_from true cells (rows_held m) ≡ in_range m
unfolding in_range
in_range_tested m f = tests_all true cells (rows_held m) f

-- words each of which is within a limit
pub each_most : (limit : ℕ) (xs : List ℕ) → ((k : ℕ) → get_or xs k 0 ≤ limit) → AllMost limit xs
each_most limit [] f = tt
each_most limit (x ∷ xs) f = (f 0, each_most limit xs (λ k. f (suc k)))
