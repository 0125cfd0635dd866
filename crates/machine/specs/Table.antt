-- The cells of the machine (document 01): one table, in the order of the C interface. A later cell is one more row at its end.
use Rattle.std.specs.Prelude.{Bool, true, false, List, [], ◌∷◌, ℕ, ◌+◌}
use Prim.Native.String.{String}
use lib.Text.{eqt}
use Rattle.machine.specs.declared.Machine.{Machine}

-- A cell, or the eight words of one name.
pub record Cell : Type 0 where
  pub name : String
  -- 1 or 8
  pub count : ℕ
  -- of the field that holds a word
  pub bits : ℕ
  -- the largest number that a word may be, and what it is after reset
  pub largest : ℕ
  pub reset : ℕ
  -- the words in a machine
  pub held : Machine → List ℕ

abbrev single : String → ℕ → ℕ → ℕ → (Machine → ℕ) → Cell
single name bits largest reset number =
    record { name = name; count = 1; bits = bits; largest = largest; reset = reset; held = λ m. number m ∷ [] }

abbrev eight : String → ℕ → ℕ → ℕ → (Machine → List ℕ) → Cell
eight name bits largest reset words = record { name = name; count = 8; bits = bits; largest = largest; reset = reset; held = words }

-- The ranges are document 01's. Reset is section 3.6.3 of the guide, whose numbers stand beside the rows; what that section leaves undefined is 0
-- (document 01).
abbrev pub cells : List Cell
cells =
    -- name, bits, largest number, after reset
    single "ACC" 32 0xFFFFFFFF 0 (λ m. m.acc) ∷
    single "P" 32 0xFFFFFFFF 0 (λ m. m.p) ∷
    single "T" 16 0xFFFF 0 (λ m. m.t) ∷
    -- 2) "The Program Counter (PC) is set to 0"
    single "PC" 16 0xFFFF 0 (λ m. m.pc) ∷
    single "PFC" 16 0xFFFF 0 (λ m. m.pfc) ∷
    -- AR0 to AR7
    eight "AR" 16 0xFFFF 0 (λ m. m.ar) ∷
    -- 13) "The ARB, ARP, DP, IMR, OVM, and TC bits are not initialized by reset"
    single "ARP" 8 7 0 (λ m. m.arp) ∷
    single "ARB" 8 7 0 (λ m. m.arb) ∷
    single "DP" 16 511 0 (λ m. m.dp) ∷
    -- 6) "0 → PM", "0 → OV"
    single "PM" 8 3 0 (λ m. m.pm) ∷
    single "OV" 8 1 0 (λ m. m.ov) ∷
    -- 13)
    single "OVM" 8 1 0 (λ m. m.ovm) ∷
    -- 6) "1 → SXM", "1 → C"
    single "SXM" 8 1 1 (λ m. m.sxm) ∷
    single "C" 8 1 1 (λ m. m.c) ∷
    -- 1) "A logic 0 is loaded into the CNF"
    single "CNF" 8 1 0 (λ m. m.cnf) ∷
    -- document 01: "and MID and the cursors, are 0 here"
    single "MID" 16 1 0 (λ m. m.mid) ∷
    -- 8) "The RPTC (repeat counter) is cleared"
    single "RPTC" 16 255 0 (λ m. m.rptc) ∷
    -- its top first
    eight "stack" 16 0xFFFF 0 (λ m. m.stack.words) ∷
    single "input cursor" 16 1024 0 (λ m. m.input_cursor) ∷
    single "output cursor" 16 1024 0 (λ m. m.output_cursor) ∷
    []

-- the first of two where the test holds
abbrev pub chosen : {A : Type 0} → Bool → A → A → A
chosen true x y = x
chosen false x y = y

-- ---- columns

-- what a column has for a name; d where no row has the name
abbrev pub in_column : {A : Type 0} → (Cell → A) → A → List Cell → String → A
in_column column d [] name = d
in_column column d (c ∷ cs) name = chosen (eqt c.name name) (column c) (in_column column d cs name)

abbrev pub count_of : String → ℕ
count_of name = in_column (λ c. c.count) 0 cells name

abbrev pub bits_of : String → ℕ
bits_of name = in_column (λ c. c.bits) 0 cells name

abbrev pub reset_of : String → ℕ
reset_of name = in_column (λ c. c.reset) 0 cells name

-- the one word of a single cell
abbrev pub only : List ℕ → ℕ
only [] = 0
only (x ∷ xs) = x

-- ---- rows

-- a cell's place among the words of all rows, and how many they are
abbrev pub cell_place_in : List Cell → String → ℕ
cell_place_in [] name = 0
cell_place_in (c ∷ cs) name = chosen (eqt c.name name) 0 (c.count + cell_place_in cs name)

abbrev pub cell_place_of : String → ℕ
cell_place_of name = cell_place_in cells name

abbrev pub word_count : List Cell → ℕ
word_count [] = 0
word_count (c ∷ cs) = c.count + word_count cs

abbrev pub cell_count : ℕ
cell_count = word_count cells

-- the words of every row of a machine
abbrev pub rows_held_of : List Cell → Machine → List (List ℕ)
rows_held_of [] m = []
rows_held_of (c ∷ cs) m = c.held m ∷ rows_held_of cs m

abbrev pub rows_held : Machine → List (List ℕ)
rows_held m = rows_held_of cells m
