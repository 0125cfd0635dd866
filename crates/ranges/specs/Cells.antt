-- The cells of a machine within their ranges, and what each setter keeps: proofs.
use Rattle.std.specs.Prelude.{◌≡◌, Bool, true, false, List, [], ◌∷◌, ◌++◌, ℕ, zero, suc, ◌^◌, ◌≤◌, ◌<◌, T, length, take, drop, get_or, set}
use Rattle.std.proofs.Math.Path.{refl}
use Rattle.std.proofs.Common.{◌∙◌, arith, length-set}
use Prim.Native.String.{String}
use lib.Text.{eqt, eqt→eq}
use Rattle.machine.specs.declared.Machine.{Machine}
use Rattle.machine.specs.Table.{chosen}
use Rattle.machine.specs.Cells.{put, put_words, with_register}
use Rattle.machine.specs.Facts.{largest_of, cell_words, cell_number, AllMost, Ranged}
use Rattle.machine.specs.RangeLaws.{words_most, words_count, word_most, most, put_within, put_words_within}
use Rattle.hardware_stack.specs.Stack.{push_of, pop_of, top_of}
use Rattle.machine.specs.Stack.{push_on, pop_on}
use Rattle.hardware_stack.specs.StackLaws.{push_length, pop_length}
use Rattle.ranges.specs.Ranges.{WordsFit}

-- ---- words of lists

pub word_at : (l : List ℕ) (i : ℕ) → WordsFit l → get_or l i 0 < 2 ^ 16
word_at [] i f = omega arith
word_at (x ∷ l) zero f = f.0
word_at (x ∷ l) (suc i) f = word_at l i f.1

pub words_set : (l : List ℕ) (i x : ℕ) → x < 2 ^ 16 → WordsFit l → WordsFit (set l i x)
words_set [] i x h f = tt
words_set (y ∷ l) zero x h f = (h, f.1)
words_set (y ∷ l) (suc i) x h f = (f.0, words_set l i x h f.1)

pub words_take : (n : ℕ) (l : List ℕ) → WordsFit l → WordsFit (take n l)
words_take zero l f = tt
words_take (suc n) [] f = tt
words_take (suc n) (x ∷ l) f = (f.0, words_take n l f.1)

pub words_drop : (n : ℕ) (l : List ℕ) → WordsFit l → WordsFit (drop n l)
words_drop zero l f = f
words_drop (suc n) [] f = tt
words_drop (suc n) (x ∷ l) f = words_drop n l f.1

pub fit_most : (l : List ℕ) → WordsFit l → AllMost 65535 l
fit_most [] f = tt
fit_most (x ∷ l) f = (omega (arith, f.0), fit_most l f.1)

pub most_fit : (l : List ℕ) → AllMost 65535 l → WordsFit l
most_fit [] f = tt
most_fit (x ∷ l) f = (omega (arith, f.0), most_fit l f.1)

words_append : (l k : List ℕ) → WordsFit l → WordsFit k → WordsFit (l ++ k)
words_append [] k f g = g
words_append (x ∷ l) k f g = (f.0, words_append l k f.1 g)

-- ---- cells within their ranges

-- the machine passes check 1, and its cursors are within an input of i words and an output of o
pub record Fits (i o : ℕ) (m : Machine) : Type 0 where
  pub ranged : Ranged m
  pub reads : m.input_cursor ≤ i
  pub sends : m.output_cursor ≤ o
  pub input_most : i ≤ 1024
  pub output_most : o ≤ 1024

-- the largest number of the cell of this name, with these cursors
abbrev pub limit_in : ℕ → ℕ → String → ℕ
limit_in i o name = chosen (eqt name "input cursor") i (chosen (eqt name "output cursor") o (largest_of name))

limit_most : {i o : ℕ} → i ≤ 1024 → o ≤ 1024 → (name : String) → limit_in i o name ≤ largest_of name
limit_most {i} {o} hi ho name = by (eqt name "input cursor") (eqt→eq name "input cursor") (eqt name "output cursor") (eqt→eq name "output cursor")
  where
    by : (s : Bool) → (T s → name ≡ "input cursor") → (t : Bool) → (T t → name ≡ "output cursor") → chosen s i (chosen t o (largest_of name)) ≤ largest_of name
    by true e t d = rw (e tt) hi
    by false e true d = rw (d tt) ho
    by false e false d = omega arith

-- a cursor after a number was put into the cell of a name
cursor_kept : (cursor name : String) (limit : String → ℕ) (x held : ℕ) → held ≤ limit cursor → x ≤ limit name → chosen (eqt cursor name) x held ≤ limit cursor
cursor_kept cursor name limit x held h k = by (eqt cursor name) (eqt→eq cursor name)
  where
    by : (t : Bool) → (T t → cursor ≡ name) → chosen t x held ≤ limit cursor
    by true e = rw (e tt) k
    by false e = h

-- each setter of a single cell, where the new number is within the cell's limit
pub set_cell : (name : String) {i o : ℕ} {m : Machine} → Fits i o m → {x : ℕ} → x < suc (limit_in i o name) → Fits i o (put name m x)
set_cell name {i} {o} {m} f {x} h =
    let k : x ≤ limit_in i o name = omega (arith, h) in
    record {
      ranged = put_within f.ranged name (omega (arith, k, limit_most f.input_most f.output_most name));
      reads = cursor_kept "input cursor" name (limit_in i o) x m.input_cursor f.reads k;
      sends = cursor_kept "output cursor" name (limit_in i o) x m.output_cursor f.sends k;
      input_most = f.input_most;
      output_most = f.output_most;
    }

module _ {i o : ℕ} {m : Machine} (f : Fits i o m) where
  -- AR and the stack are of eight words of 16 bits
  pub words_fit : (name : String) → largest_of name ≡ 65535 → WordsFit (cell_words m name)
  words_fit name e = most_fit (cell_words m name) (rw e at (words_most f.ranged name))

  pub set_register : (r x : ℕ) → x < 2 ^ 16 → Fits i o (with_register m r x)
  set_register r x h = record {
    ranged =
        put_words_within f.ranged "AR" (set m.ar r x) (length-set m.ar r x ∙ words_count f.ranged "AR")
        (fit_most (set m.ar r x) (words_set m.ar r x h (words_fit "AR" refl)));
    reads = f.reads;
    sends = f.sends;
    input_most = f.input_most;
    output_most = f.output_most;
  }

  -- another stack of eight words of 16 bits
  set_stack : (words : List ℕ) → length words ≡ 8 → WordsFit words → Fits i o (put_words "stack" m words)
  set_stack words n h = record {
    ranged = put_words_within f.ranged "stack" words n (fit_most words h);
    reads = f.reads;
    sends = f.sends;
    input_most = f.input_most;
    output_most = f.output_most;
  }

  pub set_pushed : (x : ℕ) → x < 2 ^ 16 → Fits i o (push_on m x)
  unfolding push_of
  set_pushed x h =
      set_stack (push_of m.stack x).words (push_length m.stack (words_count f.ranged "stack") x)
      (h, words_take 7 m.stack.words (words_fit "stack" refl))

  pub set_popped : Fits i o (pop_on m).m
  unfolding pop_of
  set_popped =
      let words = words_fit "stack" refl in
      set_stack (pop_of m.stack).words (pop_length m.stack (words_count f.ranged "stack"))
      (words_append (drop 1 m.stack.words) _ (words_drop 1 m.stack.words words) (word_at m.stack.words 7 words, tt))

  pub top_fits : (pop_on m).word < 2 ^ 16
  unfolding top_of
  top_fits = word_at m.stack.words 0 (words_fit "stack" refl)

  -- the cell of this name is below the number after its largest
  pub cell_fits : (name : String) → cell_number m name < suc (largest_of name)
  cell_fits name = omega (arith, most f.ranged name)

  pub register_fits : (r : ℕ) → get_or m.ar r 0 < 2 ^ 16
  register_fits r = omega (arith, word_most f.ranged "AR" r)
