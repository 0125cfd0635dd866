-- Laws of text put down piece by piece, and of a line's fields.
use Rattle.std.specs.Prelude.{◌≡◌, refl, List, [], ◌∷◌, ◌++◌, ℕ, ◌+◌, ◌-◌, ◌*◌, ◌/◌, ◌%◌, ◌≤◌, ◌<◌, length, take, get_or, set}
use Rattle.std.proofs.Common.{sym, ap, ◌∙◌, append_assoc, append-nil, arith, add-one, length-append, take-suc, length-take-le, le-leb}
use Rattle.std.proofs.Math.Seq.{length-sets, take-length}
use Rattle.std.proofs.lemmas.Bool.{lt-leb}
use Rattle.basic_laws.specs.Stores.{sets_append, sets_front}
use Rattle.line_digits.specs.Digits.{digit_of, hexadecimal, decimal}
use Rattle.line_digits.specs.DigitLaws.{small_digit, hexadecimal_length, decimal_one, decimal_more}
use Rattle.line_fields.specs.Placing.{space, line_in, length_in}
use Rattle.line_fields.specs.Facts.{Put, Room, word_fields, cell_fields, line_put, WordsPut}

-- ---- text put down

module _ {l m : List ℕ} {at next : ℕ} {text : List ℕ} (p : Put l at text m next) where
  pub put_length : length m ≡ length l
  put_length = ap length p.stored ∙ length-sets l at text

  pub put_then : {n : List ℕ} {end : ℕ} {more : List ℕ} → Put m next more n end → Put l at (text ++ more) n end
  put_then {n} {end} {more} q =
      record {
        stored = rw (sets_append, ← p.stored, ← p.ends) q.stored;
        ends = omega (arith, q.ends, p.ends, length-append text more);
      }

  -- what is left of the room for the rest
  pub room_then : (more : List ℕ) → Room l at (text ++ more) → Room m next more
  room_then more r =
      record { fits = omega (arith, r.fits, p.ends, length-append text more, put_length) }

pub room_first : {l : List ℕ} {at : ℕ} (text more : List ℕ) → Room l at (text ++ more) → Room l at text
room_first text more r = record { fits = omega (arith, r.fits, length-append text more) }

pub put_one : (l : List ℕ) (at byte : ℕ) → Put l at (byte ∷ []) (set l at byte) (at + 1)
put_one l at byte = record { stored = refl; ends = refl }

-- a number of one digit, and the last digit of a longer one
module _ {l : List ℕ} {at : ℕ} (n : ℕ) where
  pub one_room : (byte : ℕ) → n < 10 → Room l at (decimal n) → Room l at (byte ∷ [])
  one_room byte h r = record { fits = omega (arith, r.fits, ap length (decimal_one n h)) }

  pub one_put : {byte next : ℕ} {m : List ℕ} → n < 10 → byte ≡ digit_of (n % 16) → Put l at (byte ∷ []) m next → Put l at (decimal n) m next
  one_put h e p = rw (decimal_one n h, ← small_digit n (omega arith), ← e) p

  pub more_room : 10 ≤ n → Room l at (decimal n) → Room l at (decimal (n / 10))
  more_room h r = room_first (decimal (n / 10)) (digit_of (n % 10) ∷ []) (rw (decimal_more n h) at r)

  pub last_room : {next : ℕ} {m : List ℕ} (byte : ℕ) → 10 ≤ n → Room l at (decimal n) → Put l at (decimal (n / 10)) m next → Room m next (byte ∷ [])
  last_room byte h r p = record { fits = (room_then p (digit_of (n % 10) ∷ []) (rw (decimal_more n h) at r)).fits }

  pub last_put : {byte next end : ℕ} {m k : List ℕ} → 10 ≤ n → byte ≡ digit_of (n % 10 % 16) → Put l at (decimal (n / 10)) m next → Put m next (byte ∷ []) k end → Put l at (decimal n) k end
  last_put h e p q = rw (decimal_more n h, ← small_digit (n % 10) (omega arith), ← e) (put_then p q)

-- the four digits, one after another
pub four_put : {l l₁ l₂ l₃ l₄ : List ℕ} {at one two three four : ℕ} (n : ℕ) {a b c d : ℕ}
    → a ≡ digit_of (n / 16 / 16 / 16 % 16) → b ≡ digit_of (n / 16 / 16 % 16) → c ≡ digit_of (n / 16 % 16) → d ≡ digit_of (n % 16)
    → Put l at (a ∷ []) l₁ one → Put l₁ one (b ∷ []) l₂ two → Put l₂ two (c ∷ []) l₃ three → Put l₃ three (d ∷ []) l₄ four → Put l at (hexadecimal 4 n) l₄ four
unfolding hexadecimal
four_put n ea eb ec ed p q r s = rw (← ea, ← eb, ← ec, ← ed) (put_then (put_then (put_then p q) r) s)

-- the words, one after another
pub words_none : (words l : List ℕ) (at : ℕ) → WordsPut words l at 0 l at
unfolding word_fields
words_none words l at = record { reached = omega arith; so_far = record { stored = refl; ends = omega arith } }

fields_append : (a b : List ℕ) → word_fields (a ++ b) ≡ word_fields a ++ word_fields b
unfolding word_fields
fields_append [] b = refl
fields_append (w ∷ a) b = rw (fields_append a b) (sym (append_assoc (space ∷ hexadecimal 4 w) (word_fields a) (word_fields b)))

fields_one : (w : ℕ) → word_fields (w ∷ []) ≡ space ∷ hexadecimal 4 w
unfolding word_fields
fields_one w = append-nil (space ∷ hexadecimal 4 w)

pub fields_length : (words : List ℕ) → length (word_fields words) ≡ 5 * length words
unfolding word_fields
fields_length [] = refl
fields_length (w ∷ words) =
    omega (arith, length-append (hexadecimal 4 w) (word_fields words), hexadecimal_length 4 w, fields_length words)

module _ {words l m : List ℕ} {at k next : ℕ} (p : WordsPut words l at k m next) where
  pub words_more : {n : List ℕ} {end : ℕ} → k < length words → Put m next (space ∷ hexadecimal 4 (get_or words k 0)) n end → WordsPut words l at (k + 1) n end
  words_more h q =
      record { reached = omega arith; so_far = rw (add-one, take-suc words k 0, fields_append, fields_one) (put_then p.so_far q) }

  pub words_all : length words ≤ k → Put l at (word_fields words) m next
  words_all h =
      let e : k ≡ length words = omega (arith, p.reached) in
      rw (e, take-length) at p.so_far

  pub words_room : Room l at (word_fields words) → k < length words → Room m next (space ∷ hexadecimal 4 (get_or words k 0))
  words_room r h =
      let n : length (word_fields (take k words)) ≡ 5 * k = fields_length (take k words) ∙ ap (λ (j : ℕ). 5 * j) (length-take-le k words (omega arith)) in
      record { fits = omega (arith, r.fits, p.so_far.ends, n, fields_length words, hexadecimal_length 4 (get_or words k 0), put_length p.so_far) }

-- ---- the line

pub line_length : (answer steps pc acc ov : ℕ) (words : List ℕ)
    → length (line_put answer steps pc acc ov words) ≡ length (decimal answer) + length (decimal steps) + length (decimal ov) + 17 + 5 * length words
unfolding line_put cell_fields
line_length answer steps pc acc ov words =
    simp (length-append, fields_length, hexadecimal_length) (omega arith)

-- a line in lent bytes: without room, and with it
module _ (line bytes : List ℕ) where
  pub line_kept : length bytes < length line → (0 ≡ length_in line bytes) × (bytes ≡ line_in line bytes)
  unfolding line_in length_in
  line_kept less = simp (lt-leb _ _ less) (refl, refl)

  pub line_done : {after : List ℕ} {next : ℕ} → length line ≤ length bytes → Put bytes 0 line after next → (next ≡ length_in line bytes) × (after ≡ line_in line bytes)
  unfolding line_in length_in
  line_done fits p = simp (le-leb _ _ fits) (omega (arith, p.ends), p.stored ∙ sets_front line bytes fits)

pub number_length : (n end : ℕ) → length (decimal n ++ (end ∷ [])) ≡ length (decimal n) + 1
number_length n end = length-append (decimal n) (end ∷ [])

-- whether a line of cells and words fits: five bytes for each word, and n for the rest
module _ (answer steps pc acc ov : ℕ) (words bytes : List ℕ) where
  pub words_spill : length bytes / 5 < length words → (0 ≡ length_in (line_put answer steps pc acc ov words) bytes) × (bytes ≡ line_in (line_put answer steps pc acc ov words) bytes)
  words_spill more = line_kept (line_put answer steps pc acc ov words) bytes (omega (arith, line_length answer steps pc acc ov words))

  module _ {n : ℕ} (e : n ≡ length (decimal answer) + length (decimal steps) + length (decimal ov) + 17) (few : length words ≤ length bytes / 5) where
    pub cells_spill : length bytes - 5 * length words < n → (0 ≡ length_in (line_put answer steps pc acc ov words) bytes) × (bytes ≡ line_in (line_put answer steps pc acc ov words) bytes)
    cells_spill more = line_kept (line_put answer steps pc acc ov words) bytes (omega (arith, line_length answer steps pc acc ov words))

    pub line_room : n ≤ length bytes - 5 * length words → Room bytes 0 (line_put answer steps pc acc ov words)
    line_room fits = record { fits = omega (arith, line_length answer steps pc acc ov words) }

    pub line_put_lem : {after : List ℕ} {next : ℕ} → n ≤ length bytes - 5 * length words → Put bytes 0 (line_put answer steps pc acc ov words) after next
        → (next ≡ length_in (line_put answer steps pc acc ov words) bytes) × (after ≡ line_in (line_put answer steps pc acc ov words) bytes)
    line_put_lem fits p = line_done (line_put answer steps pc acc ov words) bytes (omega (arith, (line_room fits).fits)) p
