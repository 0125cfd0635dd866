-- The limits of the cells are check 1: cells that pass are those of a machine in range, and a machine's cells pass exactly where it is in range.
use Rattle.std.specs.Prelude.{◌≡◌, refl, Bool, true, false, cond, ◌&&◌, List, [], ◌∷◌, ◌++◌, ℕ, zero, suc, ◌≤◌, ◌<◌, eqb, length, get_or, replicate}
use Rattle.std.proofs.Common.{sym, ap, ◌∙◌, arith, le-leb, eq-eqb, eqb-true}
use Rattle.std.proofs.lemmas.Bool.{false≢true}
use Rattle.std.proofs.lemmas.List.{length-replicate}
use Rattle.machine.specs.declared.Machine.{Machine}
use Rattle.machine.specs.Table.{Cell, cells, cell_count, rows_held}
use Rattle.machine.specs.Reset.{reset_machine}
use Rattle.machine.specs.Range.{rows_in_range, in_range}
use Rattle.machine.specs.Facts.{AllMost}
use Rattle.machine.specs.RangeLaws.{rows_first, rows_more}
use Rattle.answers.specs.Answers.{Done, CellOutOfRange}
use Rattle.answers.specs.Numbers.{is_done}
use Rattle.c_cells.specs.Cells.{joined, cells_of, machine_from, machine_of}
use Rattle.c_cells.specs.Checks.{limits_of, limits, within_limits, cells_answer}
use Rattle.c_cells.specs.CheckLaws.{cells_kept, machine_of_all}
use Rattle.c_cells.specs.StoreLaws.{cells_length}
use Rattle.c_cell_laws.specs.CellLaws.{within_at, cells_machine}

-- ---- each number of a list at most that of another in its place

AtMost : List ℕ → List ℕ → Type 0
AtMost xs [] = Unit {0}
AtMost [] (k ∷ ks) = Unit {0}
AtMost (x ∷ xs) (k ∷ ks) = (x ≤ k) × AtMost xs ks

most_at : (xs ks : List ℕ) → AtMost xs ks → (i : ℕ) → i < length ks → get_or xs i 0 ≤ get_or ks i 0
unfolding AtMost
most_at xs [] h i below = absurd (omega arith)
most_at [] (k ∷ ks) h i below = omega arith
most_at (x ∷ xs) (k ∷ ks) h zero below = h.0
most_at (x ∷ xs) (k ∷ ks) h (suc i) below = most_at xs ks h.1 i (omega arith)

most_append : (xs ks ys js : List ℕ) → length xs ≡ length ks → AtMost xs ks → AtMost ys js → AtMost (xs ++ ys) (ks ++ js)
unfolding AtMost
most_append [] [] ys js e f g = g
most_append (x ∷ xs) (k ∷ ks) ys js e f g = (f.0, most_append xs ks ys js (omega arith) f.1 g)
most_append [] (k ∷ ks) ys js e f g = absurd (omega arith)
most_append (x ∷ xs) [] ys js e f g = absurd (omega arith)

most_split : (xs ks ys js : List ℕ) → length xs ≡ length ks → AtMost (xs ++ ys) (ks ++ js) → AtMost xs ks × AtMost ys js
unfolding AtMost
most_split [] [] ys js e f = (tt, f)
most_split (x ∷ xs) (k ∷ ks) ys js e f = let rest = most_split xs ks ys js (omega arith) f.1 in ((f.0, rest.0), rest.1)
most_split [] (k ∷ ks) ys js e f = absurd (omega arith)
most_split (x ∷ xs) [] ys js e f = absurd (omega arith)

most_by : (xs ks : List ℕ) → ((i : ℕ) → i < length ks → get_or xs i 0 ≤ get_or ks i 0) → AtMost xs ks
unfolding AtMost
most_by xs [] f = tt
most_by [] (k ∷ ks) f = tt
most_by (x ∷ xs) (k ∷ ks) f = (f 0 (omega arith), most_by xs ks (λ i below. f (suc i) (omega arith)))

-- one limit for all
each_at_most : (limit : ℕ) (row : List ℕ) → AllMost limit row → AtMost row (replicate (length row) limit)
unfolding AtMost
each_at_most limit [] h = tt
each_at_most limit (x ∷ row) h = (h.0, each_at_most limit row h.1)

at_most_each : (limit : ℕ) (row : List ℕ) → AtMost row (replicate (length row) limit) → AllMost limit row
unfolding AtMost
at_most_each limit [] h = tt
at_most_each limit (x ∷ row) h = (h.0, at_most_each limit row h.1)

most_within : (numbers : List ℕ) (n : ℕ) → ((i : ℕ) → i < n → get_or numbers i 0 ≤ get_or limits i 0) → within_limits n numbers ≡ true
unfolding within_limits
most_within numbers zero f = refl
most_within numbers (suc n) f =
    simp (most_within numbers n (λ i below. f i (omega arith)), le-leb _ _ (f n (omega arith)))

-- ---- the rows of a machine against its cells

rows_most : (cs : List Cell) (rows : List (List ℕ)) → rows_in_range cs rows ≡ true → AtMost (joined rows) (limits_of cs)
unfolding AtMost
rows_most [] rows h = tt
rows_most (c ∷ cs) [] h = absurd (false≢true h)
rows_most (c ∷ cs) (row ∷ rows) h =
    let k = rows_first c row cs rows h in
    let most : AtMost row (replicate c.count c.largest) = rw k.row_count at (each_at_most c.largest row k.row_most) in
    most_append row (replicate c.count c.largest) (joined rows) (limits_of cs) (k.row_count ∙ sym (length-replicate c.count c.largest)) most
    (rows_most cs rows k.rows_kept)

-- each row has as many words as its cell
counts_kept : List Cell → List (List ℕ) → Bool
counts_kept [] rows = true
counts_kept (c ∷ cs) [] = false
counts_kept (c ∷ cs) (row ∷ rows) = eqb (length row) c.count && counts_kept cs rows

first_count : (c : Cell) (row : List ℕ) (cs : List Cell) (rows : List (List ℕ)) → counts_kept (c ∷ cs) (row ∷ rows) ≡ true → (length row ≡ c.count) × (counts_kept cs rows ≡ true)
unfolding counts_kept
first_count c row cs rows h = by (eqb (length row) c.count) refl h
  where
    by : (t : Bool) → eqb (length row) c.count ≡ t → t && counts_kept cs rows ≡ true → (length row ≡ c.count) × (counts_kept cs rows ≡ true)
    by true e h = (eqb-true _ _ e, h)
    by false e h = absurd (false≢true h)

most_rows : (cs : List Cell) (rows : List (List ℕ)) → counts_kept cs rows ≡ true → AtMost (joined rows) (limits_of cs) → rows_in_range cs rows ≡ true
unfolding counts_kept
most_rows [] rows n h = refl
most_rows (c ∷ cs) [] n h = absurd (false≢true n)
most_rows (c ∷ cs) (row ∷ rows) n h =
    let counts = first_count c row cs rows n in
    let split = most_split row (replicate c.count c.largest) (joined rows) (limits_of cs) (counts.0 ∙ sym (length-replicate c.count c.largest)) h in
    let most : AtMost row (replicate (length row) c.largest) = rw counts.0 split.0 in
    rows_more c row cs rows (record { row_count = counts.0; row_most = at_most_each c.largest row most; rows_kept = most_rows cs rows counts.1 split.1 })

module _ (m : Machine) (n : counts_kept cells (rows_held m) ≡ true) where
  within_ranged : within_limits cell_count (cells_of m) ≡ true → in_range m ≡ true
  unfolding in_range cells_of limits
  within_ranged w = most_rows cells (rows_held m) n (most_by (cells_of m) limits (within_at (cells_of m) cell_count w))

  ranged_within : in_range m ≡ true → within_limits cell_count (cells_of m) ≡ true
  unfolding in_range cells_of limits
  ranged_within h = most_within (cells_of m) cell_count (most_at (cells_of m) limits (rows_most cells (rows_held m) h))

-- the machine of cells that pass the checks passes check 1
pub kept_in_range : (cells : List ℕ) → is_done (cells_answer cells) ≡ true → in_range (machine_of cells) ≡ true
unfolding counts_kept machine_from
kept_in_range cells h =
    let k = cells_kept cells h in
    let e = machine_of_all cells k.count in
    rw e (within_ranged (machine_from cells) refl (rw (← e, cells_machine cells h) k.within))

-- a machine's cells pass exactly where it passes check 1, and are answered by 1 elsewhere; AR and the stack are of eight words, as their types say
pub machine_checked : (m : Machine) → length m.ar ≡ 8 → length m.stack.words ≡ 8 → cells_answer (cells_of m) ≡ cond (in_range m) Done CellOutOfRange
unfolding cells_answer counts_kept
machine_checked m a s =
    simp (eq-eqb _ _ (cells_length m a s))
    (ap (λ (t : Bool). cond t Done CellOutOfRange) (by (in_range m) refl (within_limits cell_count (cells_of m)) refl))
  where
    counts : counts_kept cells (rows_held m) ≡ true
    counts = rw (eq-eqb _ _ a, eq-eqb _ _ s) refl

    by : (r : Bool) → in_range m ≡ r → (w : Bool) → within_limits cell_count (cells_of m) ≡ w → within_limits cell_count (cells_of m) ≡ in_range m
    by true e w f = ranged_within m counts e ∙ sym e
    by false e false f = f ∙ sym e
    by false e true f = absurd (false≢true (sym e ∙ within_ranged m counts f))

-- the cells after reset pass
pub reset_passes : cells_answer (cells_of reset_machine) ≡ Done
unfolding cells_answer within_limits limits cells_of reset_machine
reset_passes = refl
