-- The cells of a machine are its own, each in its own place: reading them back gives the machine, and a machine read from cells that pass the checks has those cells.
use Rattle.std.specs.Prelude.{◌≡◌, refl, Bool, true, false, ◌&&◌, List, [], ◌∷◌, ◌++◌, ℕ, zero, suc, ◌+◌, ◌%◌, ◌^◌, ◌≤◌, ◌<◌, leb, ltb, length, drop, get_or, replicate}
use Rattle.std.proofs.Common.{sym, ap, ◌∙◌, arith, drop-cons, mod-eq_of_lt, leb-true, ltb-true, ltb-false}
use Rattle.std.proofs.Math.Seq.{drop-length}
use Rattle.basic_laws.specs.Tests.{both_hold}
use Rattle.machine.specs.Table.{Cell, cells, cell_count}
use Rattle.answers.specs.Numbers.{is_done}
use Rattle.c_cells.specs.Cells.{cells_of, machine_from, machine_of}
use Rattle.c_cells.specs.Checks.{limits, within_limits, cells_answer}
use Rattle.c_cells.specs.CheckLaws.{cells_kept, machine_of_all}

-- ---- every cell at most its limit

-- what holds of every number below n, and of n, holds of every number below n + 1
below_more : (P : ℕ → Type 0) (n : ℕ) → ((i : ℕ) → i < n → P i) → P n → (i : ℕ) → i < suc n → P i
below_more P n f p i below = by (ltb i n) refl
  where
    by : (t : Bool) → ltb i n ≡ t → P i
    by true e = f i (ltb-true i n e)
    by false e =
        let same : i ≡ n = omega (arith, ltb-false i n e) in
        rw same p

pub within_at : (cells : List ℕ) (n : ℕ) → within_limits n cells ≡ true → (i : ℕ) → i < n → get_or cells i 0 ≤ get_or limits i 0
unfolding within_limits
within_at cells zero h = λ i below. absurd (omega arith)
within_at cells (suc n) h =
    let both = both_hold (within_limits n cells) _ h in
    below_more (λ (i : ℕ). get_or cells i 0 ≤ get_or limits i 0) n (within_at cells n both.0) (leb-true _ _ both.1)

-- ---- the machine of cells, back to cells

-- the numbers of the cells from place i on
unfoldable pub elements : ℕ → ℕ → List ℕ → List ℕ
elements zero i cells = []
elements (suc n) i cells = get_or cells i 0 ∷ elements n (suc i) cells

pub elements_all : (cells : List ℕ) (n i : ℕ) → i + n ≡ length cells → drop i cells ≡ elements n i cells
unfolding elements
elements_all cells zero i h = let e : i ≡ length cells = omega arith in rw (e, drop-length)
elements_all cells (suc n) i h =
    drop-cons cells i 0 (omega arith) ∙ ap (λ (rest : List ℕ). get_or cells i 0 ∷ rest) (elements_all cells n (suc i) (omega arith))

-- how many numbers the field of each cell holds
widths_of : List Cell → List ℕ
widths_of [] = []
widths_of (c ∷ cs) = replicate c.count (2 ^ c.bits) ++ widths_of cs

widths : List ℕ
widths = widths_of cells

-- each limit is below its cell's width
limits_held : ℕ → Bool
limits_held zero = true
limits_held (suc n) = limits_held n && leb (suc (get_or limits n 0)) (get_or widths n 0)

held_at : (n : ℕ) → limits_held n ≡ true → (i : ℕ) → i < n → get_or limits i 0 < get_or widths i 0
unfolding limits_held
held_at zero h = λ i below. absurd (omega arith)
held_at (suc n) h =
    let both = both_hold (limits_held n) _ h in
    below_more (λ (i : ℕ). get_or limits i 0 < get_or widths i 0) n (held_at n both.0) (leb-true _ _ both.1)

-- the numbers as the fields hold them
held : ℕ → ℕ → List ℕ → List ℕ
held zero i cells = []
held (suc n) i cells = get_or cells i 0 % get_or widths i 0 ∷ held n (suc i) cells

held_same : (cells : List ℕ) → ((i : ℕ) → i < cell_count → get_or cells i 0 < get_or widths i 0) → (n i : ℕ) → i + n ≤ cell_count → held n i cells ≡ elements n i cells
unfolding held elements
held_same cells f zero i h = refl
held_same cells f (suc n) i h =
    rw (mod-eq_of_lt (f i (omega arith)), held_same cells f n (suc i) (omega arith))

machine_held : (numbers : List ℕ) → cells_of (machine_from numbers) ≡ held cell_count 0 numbers
unfolding cells_of machine_from held widths widths_of
machine_held numbers = refl

-- a machine read from cells that pass the checks has those cells
pub cells_machine : (cells : List ℕ) → is_done (cells_answer cells) ≡ true → cells_of (machine_of cells) ≡ cells
unfolding limits widths widths_of limits_held elements
cells_machine cells h =
    let k = cells_kept cells h in
    let below : (i : ℕ) → i < cell_count → get_or cells i 0 < get_or widths i 0 = λ i b. omega (arith, within_at cells cell_count k.within i b, held_at cell_count refl i b) in
    ap cells_of (machine_of_all cells k.count)
    ∙ machine_held cells
    ∙ held_same cells below cell_count 0 (omega arith)
    ∙ sym (elements_all cells cell_count 0 (sym k.count))
