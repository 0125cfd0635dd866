-- The cells of a machine in range give it back, each row from its own place.
use Rattle.std.specs.Prelude.{◌≡◌, refl, Bool, true, false, ◌&&◌, List, [], ◌∷◌, ℕ, suc, ◌+◌, ◌^◌, ◌<◌, ltb, length, get_or}
use Rattle.std.proofs.Common.{◌∙◌, arith, mod-eq_of_lt, get_or-append-add, ltb-true}
use Rattle.std.proofs.lemmas.Bool.{false≢true}
use Prim.Native.String.{String}
use Rattle.std.proofs.Math.ListN.{get_or-append}
use lib.Text.{eqt}
use Rattle.machine.specs.declared.Machine.{Machine}
use Rattle.machine.specs.Table.{Cell, cells, chosen, only, in_column, cell_place_in, cell_place_of, rows_held_of}
use Rattle.machine.specs.Cells.{built}
use Rattle.machine.specs.Range.{in_range}
use Rattle.machine.specs.Facts.{largest_of, cell_words, AllMost, RowsWithin}
use Rattle.machine.specs.RangeLaws.{ranged, words_count}
use Rattle.c_cells.specs.Cells.{joined, cells_of, fields_at, words_from, machine_from, machine_of}
use Rattle.c_cells.specs.CheckLaws.{machine_of_all}
use Rattle.c_cells.specs.StoreLaws.{cells_length}

-- a row that stands in a list of numbers from a place on, read back from there
row_back : (bits limit : ℕ) → limit < 2 ^ bits → (numbers row : List ℕ) (place : ℕ) → AllMost limit row
    → ((k : ℕ) → k < length row → get_or numbers (place + k) 0 ≡ get_or row k 0) → fields_at bits numbers place (length row) ≡ row
row_back bits limit h numbers [] place most e = refl
row_back bits limit h numbers (x ∷ row) place most e =
    let here : place + 0 ≡ place = omega arith in
    let first : get_or numbers place 0 ≡ x = rw here at (e 0 (omega arith)) in
    let x_below : x < 2 ^ bits = omega (arith, h, most.0) in
    let rest : (k : ℕ) → k < length row → get_or numbers (suc place + k) 0 ≡ get_or row k 0 =
    λ k below. let next : place + suc k ≡ suc place + k = omega arith in rw next at (e (suc k) (omega arith)) in
    rw (first, mod-eq_of_lt x_below, row_back bits limit h numbers row (suc place) most.1 rest)

-- the largest number of each cell is below what its field holds
largest_held : List Cell → Bool
largest_held [] = true
largest_held (c ∷ cs) = ltb (largest_of c.name) (2 ^ c.bits) && largest_held cs

held_both : (c : Cell) (cs : List Cell) → largest_held (c ∷ cs) ≡ true → (largest_of c.name < 2 ^ c.bits) × (largest_held cs ≡ true)
unfolding largest_held
held_both c cs h = by (ltb (largest_of c.name) (2 ^ c.bits)) refl h
  where
    by : (t : Bool) → ltb (largest_of c.name) (2 ^ c.bits) ≡ t → t && largest_held cs ≡ true → (largest_of c.name < 2 ^ c.bits) × (largest_held cs ≡ true)
    by true e h = (ltb-true _ _ e, h)
    by false e h = absurd (false≢true h)

module _ (m : Machine) (numbers : List ℕ) where
  -- the words of every name among rows that stand in the numbers from a place on
  words_back : (cs : List Cell) (place : ℕ) → largest_held cs ≡ true → RowsWithin largest_of cs (rows_held_of cs m)
      → ((k : ℕ) → get_or numbers (place + k) 0 ≡ get_or (joined (rows_held_of cs m)) k 0)
      → (name : String)
      → fields_at (in_column (λ c. c.bits) 0 cs name) numbers (place + cell_place_in cs name) (in_column (λ c. c.count) 0 cs name) ≡ in_column (λ c. c.held m) [] cs name
  words_back [] place h w e name = refl
  words_back (c ∷ cs) place h w e name =
      let both = held_both c cs h in
      let n : length (c.held m) ≡ c.count = w.0.0 in
      let row : fields_at c.bits numbers place c.count ≡ c.held m =
      rw (← n)
      (row_back c.bits (largest_of c.name) both.0 numbers (c.held m) place w.0.1
      (λ k below. e k ∙ get_or-append (c.held m) (joined (rows_held_of cs m)) 0 k below)) in
      let rest : (k : ℕ) → get_or numbers (place + c.count + k) 0 ≡ get_or (joined (rows_held_of cs m)) k 0 =
      λ k. let next : place + c.count + k ≡ place + (length (c.held m) + k) = omega (arith, n) in
      rw next (e (length (c.held m) + k) ∙ get_or-append-add (c.held m) (joined (rows_held_of cs m)) k 0) in
      by (eqt c.name name) _ _ _ _ row (words_back cs (place + c.count) both.1 w.1 rest name)
    where
      by : (t : Bool) (bits from n : ℕ) (words : List ℕ)
          → fields_at c.bits numbers place c.count ≡ c.held m
          → fields_at bits numbers (place + c.count + from) n ≡ words
          → fields_at (chosen t c.bits bits) numbers (place + chosen t 0 (c.count + from)) (chosen t c.count n) ≡ chosen t (c.held m) words
      by true bits from n words row rest = let e : place + 0 ≡ place = omega arith in rw e row
      by false bits from n words row rest = let e : place + (c.count + from) ≡ place + c.count + from = omega arith in rw e rest

-- a machine in range, read back from its cells, is the machine
pub machine_cells : (m : Machine) → in_range m ≡ true → machine_of (cells_of m) ≡ m
unfolding cells_of machine_from largest_held
machine_cells m range =
    let r = ranged m range in
    let words : (name : String) → words_from (cells_of m) name ≡ cell_words m name =
    λ name. let e : 0 + cell_place_of name ≡ cell_place_of name = omega arith in
    rw e at (words_back m (cells_of m) cells 0 refl r.rows (λ k. let e : 0 + k ≡ k = omega arith in rw e) name) in
    machine_of_all (cells_of m) (cells_length m (words_count r "AR") (words_count r "stack"))
    ∙ (λ i. built (λ name field. only (words name i)) (λ name field. words name i))
