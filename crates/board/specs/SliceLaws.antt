-- Laws of parts, of check 2 and of the page store.
use Rattle.std.specs.Prelude.{◌≡◌, refl, Bool, true, false, ◌&&◌, List, [], ◌∷◌, ℕ, zero, suc, ◌+◌, ◌*◌, ◌-◌, ◌/◌, ◌%◌, ◌≤◌, ◌<◌, min, leb, eqb, length, take, drop, set}
use Rattle.std.proofs.Common.{ap, ◌∙◌, append_assoc, arith, length-take, length-set, le-leb, leb-true, leb-false, eqb-true}
use Rattle.std.proofs.lemmas.Bool.{false≢true, lt-leb}
use Rattle.std.proofs.Math.Numerals.{unary_clauses}
use Rattle.std.proofs.Math.Seq.{slice, take-nil, set_out}
use Rattle.std.specs.Borrow.{Bor}
use borrow.Rule.Slice.PartMut.{mid_len, Post-is, put_same, set_mid_at, same_len_mid, take_put, drop_put}
use Rattle.basic_laws.specs.Tests.{both_hold}
use Rattle.board.specs.Slices.{memories_fit, port_fits, port_spent, slices_fit, part_start, data_page_part, data_page_stored}
use Rattle.machine.specs.declared.Machine.{Machine}
use Rattle.board.specs.SliceFacts.{MemoriesFit, PortFits, SlicesFit}
use Rattle.board.specs.DataPage.{count, data_page_lent, data_page_written, rejoined}

-- a part, by its start and how many words it has
pub part_counted : (f t : ℕ) (l : List ℕ) → take (t - f) (drop f l) ≡ slice f t l
part_counted zero t l = simp unary_clauses
part_counted (suc f) zero l =
    let none : 0 - suc f ≡ 0 = omega arith in
    rw none
part_counted (suc f) (suc t) [] = take-nil (suc t - suc f)
part_counted (suc f) (suc t) (x ∷ xs) = simp unary_clauses (part_counted f t xs)

take_min : (t : ℕ) (l : List ℕ) → take (min t (length l)) l ≡ take t l
take_min zero l = simp unary_clauses
take_min (suc t) [] = simp unary_clauses
take_min (suc t) (x ∷ xs) = simp unary_clauses (ap (λ (z : List ℕ). x ∷ z) (take_min t xs))

drop_min : (f : ℕ) (l : List ℕ) → drop (min f (length l)) l ≡ drop f l
drop_min zero l = simp unary_clauses
drop_min (suc f) [] = simp unary_clauses
drop_min (suc f) (x ∷ xs) = simp unary_clauses (drop_min f xs)

part_cut : (f t : ℕ) (l : List ℕ) → slice (min f (min t (length l))) (min t (length l)) l ≡ slice f t l
part_cut f t l = rw (take_min t l, ← length-take t l) (drop_min f (take t l))

-- bounds cut down to the words that are there give the same part
pub part_shown : (f t : ℕ) (l : List ℕ) (start end : ℕ) → end ≡ min t (length l) → start ≡ min f end → take (end - start) (drop start l) ≡ slice f t l
part_shown f t l start end he hs = rw (part_counted start end l, hs, he) (part_cut f t l)

-- and where it begins
pub part_begins : (f t : ℕ) (words : Bor (List ℕ)) (start end : ℕ) → end ≡ min t (length words.now) → start ≡ min f end
    → (words.ref_ptr.0, start * 2 + words.ref_ptr.1) ≡ part_start f t words
unfolding part_start
part_begins f t words start end he hs =
    let e : start * 2 + words.ref_ptr.1 ≡ words.ref_ptr.1 + 2 * min f (min t (length words.now)) = omega (arith, hs ∙ ap (min f) he) in
    ap (λ (n : ℕ). (words.ref_ptr.0, n)) e

module _ (d : List ℕ) (dp offset word : ℕ) where
  pub data_page_put : 128 * dp + 128 ≤ length d → data_page_stored d dp offset word ≡ rejoined d dp offset word
  unfolding data_page_stored data_page_part
  data_page_put h =
      simp (le-leb (128 * dp + 128) (length d) h)
      (rw (append_assoc, ← part_counted (128 * dp) (128 * dp + 128) d, ← Post-is (128 * dp) (128 * dp + 128) d (omega arith)))

  pub data_page_missing : length d < 128 * dp + 128 → data_page_stored d dp offset word ≡ d
  unfolding data_page_stored
  data_page_missing h = simp (lt-leb (128 * dp + 128) (length d) h)

  either_way : (P : List ℕ → Type 0) → (128 * dp + 128 ≤ length d → P (rejoined d dp offset word)) → P d → P (data_page_stored d dp offset word)
  either_way P put kept = by (leb (128 * dp + 128) (length d)) refl
    where
      by : (t : Bool) → leb (128 * dp + 128) (length d) ≡ t → P (data_page_stored d dp offset word)
      by true e = let h = leb-true _ _ e in rw (data_page_put h) (put h)
      by false e = rw (data_page_missing (leb-false _ _ e)) kept

  -- the words before the page, and those after it, are as they were
  pub data_page_before : take (128 * dp) (data_page_stored d dp offset word) ≡ take (128 * dp) d
  data_page_before =
      either_way (λ (x : List ℕ). take (128 * dp) x ≡ take (128 * dp) d)
      (λ h. take_put (128 * dp) (count dp) d (data_page_written d dp offset word) (omega arith))
      refl

  pub data_page_after : drop (128 * dp + 128) (data_page_stored d dp offset word) ≡ drop (128 * dp + 128) d
  data_page_after =
      either_way (λ (x : List ℕ). drop (128 * dp + 128) x ≡ drop (128 * dp + 128) d)
      (λ h.
      drop_put (128 * dp) (128 * dp + 128) d (data_page_written d dp offset word) (omega arith) h
      (length-set (data_page_lent d dp) offset word ∙ mid_len (128 * dp) (128 * dp + 128) d h))
      refl

  pub data_page_length : length (data_page_stored d dp offset word) ≡ length d
  data_page_length =
      either_way (λ (x : List ℕ). length x ≡ length d)
      (λ h. same_len_mid (128 * dp) (count dp) d (data_page_written d dp offset word) (length-set (data_page_lent d dp) offset word))
      refl

  -- an offset outside the page stores nothing
  pub data_page_outside : 128 ≤ offset → data_page_stored d dp offset word ≡ d
  data_page_outside far =
      either_way (λ (x : List ℕ). x ≡ d)
      (λ h.
      let out : length (data_page_lent d dp) ≤ offset = rw (mid_len (128 * dp) (128 * dp + 128) d h) (omega arith) in
      rw (set_out (data_page_lent d dp) offset word out) (put_same (128 * dp) (count dp) d))
      refl

  -- in the page it is the one store at 128 times the page plus the offset
  pub data_page_set : 128 * dp + 128 ≤ length d → offset < 128 → data_page_stored d dp offset word ≡ set d (128 * dp + offset) word
  data_page_set h near =
      let inside : offset < length (data_page_lent d dp) = rw (mid_len (128 * dp) (128 * dp + 128) d h) (omega arith) in
      data_page_put h ∙ set_mid_at (128 * dp) (count dp) offset d word inside

-- a store by page and offset is the store at its address
pub address_set : (d : List ℕ) (address word : ℕ) → length d ≡ 4096 → address < 4096 → data_page_stored d (address / 128) (address % 128) word ≡ set d address word
address_set d address word h below =
    let e : 128 * (address / 128) + address % 128 ≡ address = omega arith in
    data_page_set d (address / 128) (address % 128) word (omega arith) (omega arith) ∙ rw e

pub memories_fit_lem : (rom d : List ℕ) → memories_fit rom d ≡ true → MemoriesFit rom d
unfolding memories_fit
memories_fit_lem rom d h =
    let p = both_hold (eqb (length rom) 4096) _ h in
    record { rom_size = eqb-true _ _ p.0; data_size = eqb-true _ _ p.1 }

pub port_fits_lem : (size cursor : ℕ) → port_fits size cursor ≡ true → PortFits size cursor
unfolding port_fits
port_fits_lem size cursor h =
    let p = both_hold (leb size 1024) _ h in
    record { size_most = leb-true _ _ p.0; not_past = leb-true _ _ p.1 }

pub slices_fit_lem : (m : Machine) (rom d input : List ℕ) (output_length : ℕ) → slices_fit m rom d input output_length ≡ true → SlicesFit m rom d input output_length
unfolding slices_fit
slices_fit_lem m rom d input output_length h =
    let p = both_hold (memories_fit rom d && port_fits (length input) m.input_cursor) _ h in
    let q = both_hold (memories_fit rom d) _ p.0 in
    record { memories = memories_fit_lem rom d q.0; input_port = port_fits_lem _ _ q.1; output_port = port_fits_lem _ _ p.1 }

-- a longer input slice fits too, up to its largest size
pub longer_fits : (m : Machine) (rom d input longer : List ℕ) (output_length : ℕ) → length input ≤ length longer → length longer ≤ 1024
    → slices_fit m rom d input output_length ≡ true → slices_fit m rom d longer output_length ≡ true
unfolding slices_fit port_fits
longer_fits m rom d input longer output_length h most fits =
    let past = (slices_fit_lem m rom d input output_length fits).input_port.not_past in
    let p = both_hold (memories_fit rom d && port_fits (length input) m.input_cursor) _ fits in
    let q = both_hold (memories_fit rom d) _ p.0 in
    rw (q.0, le-leb _ _ most, le-leb m.input_cursor (length longer) (omega (arith, past, h)), p.1)

-- a port that is used and not spent has a word, or a place, at its cursor; one that is spent has none
pub port_left : (used : Bool) (size cursor : ℕ) → used && port_spent size cursor ≡ false → used ≡ true → cursor < size
unfolding port_spent
port_left true size cursor h e = leb-false _ _ h
port_left false size cursor h e = absurd (false≢true e)

pub record PortEnded (used : Bool) (size cursor : ℕ) : Type 0 where
  pub is_used : used ≡ true
  pub at_end : size ≤ cursor

pub port_ended : (used : Bool) (size cursor : ℕ) → used && port_spent size cursor ≡ true → PortEnded used size cursor
unfolding port_spent
port_ended true size cursor h = record { is_used = refl; at_end = leb-true _ _ h }
port_ended false size cursor h = absurd (false≢true h)
