-- What a writer's methods ask and promise: there is room for a text, and it was put down in the bytes that the writer still holds.
use Rattle.std.specs.Prelude.{◌≡◌, List, [], ◌∷◌, ◌++◌, ℕ, ◌+◌, ◌/◌, ◌%◌, ◌≤◌, ◌<◌, length, get_or}
use Rattle.std.proofs.Common.{refl, ◌∙◌, arith}
use Rattle.line_digits.specs.Digits.{digit_of, hexadecimal, decimal}
use Rattle.line_digits.specs.DigitLaws.{hexadecimal_length}
use Rattle.line_fields.specs.declared.numbers.Writer.{Writer}
use Rattle.line_fields.specs.Placing.{space, line_in, length_in}
use Rattle.line_fields.specs.Facts.{Put, Room, word_fields, WordsPut}
use Rattle.line_fields.specs.PlacingLaws.{put_then, room_first, room_then, put_length, four_put, one_room, one_put, more_room, last_room, last_put, words_none, words_more, words_all, words_room}

pub record Fits (w : Writer) (text : List ℕ) : Type 0 where
  pub room : Room w.bytes.now w.at text

pub record Wrote (before : Writer) (text : List ℕ) (after : Writer) : Type 0 where
  pub same_bytes : after.bytes.ghost_name ≡ before.bytes.ghost_name
  pub put : Put before.bytes.now before.at text after.bytes.now after.at

-- no text, and one text after another
pub wrote_none : (v : Writer) → Wrote v [] v
wrote_none v = record { same_bytes = refl; put = record { stored = refl; ends = omega arith } }

pub fits_first : {w : Writer} (text more : List ℕ) → Fits w (text ++ more) → Fits w text
fits_first text more f = record { room = room_first text more f.room }

module _ {v w : Writer} {text : List ℕ} (p : Wrote v text w) where
  pub wrote_then : {x : Writer} {more : List ℕ} → Wrote w more x → Wrote v (text ++ more) x
  wrote_then q = record { same_bytes = q.same_bytes ∙ p.same_bytes; put = put_then p.put q.put }

  pub fits_then : (more : List ℕ) → Fits v (text ++ more) → Fits w more
  fits_then more f = record { room = room_then p.put more f.room }

-- a number of one digit, and the last digit of a longer one
module _ {v : Writer} (n : ℕ) where
  pub one_fits : (byte : ℕ) → n < 10 → Fits v (decimal n) → Fits v (byte ∷ [])
  one_fits byte h f = record { room = one_room n byte h f.room }

  pub one_wrote : {byte : ℕ} {w : Writer} → n < 10 → byte ≡ digit_of (n % 16) → Wrote v (byte ∷ []) w → Wrote v (decimal n) w
  one_wrote h e p = record { same_bytes = p.same_bytes; put = one_put n h e p.put }

  pub more_fits : 10 ≤ n → Fits v (decimal n) → Fits v (decimal (n / 10))
  more_fits h f = record { room = more_room n h f.room }

  module _ {w : Writer} (h : 10 ≤ n) (p : Wrote v (decimal (n / 10)) w) where
    pub last_fits : (byte : ℕ) → Fits v (decimal n) → Fits w (byte ∷ [])
    last_fits byte f = record { room = last_room n byte h f.room p.put }

    pub last_wrote : {byte : ℕ} {x : Writer} → byte ≡ digit_of (n % 10 % 16) → Wrote w (byte ∷ []) x → Wrote v (decimal n) x
    last_wrote e q = record { same_bytes = q.same_bytes ∙ p.same_bytes; put = last_put n h e p.put q.put }

-- the four digits: each has room where the one before it ended
pub four_fits : {v w : Writer} {text : List ℕ} (n byte : ℕ) → Wrote v text w → length text < 4 → Fits v (hexadecimal 4 n) → Fits w (byte ∷ [])
four_fits n byte p less f =
    record { room = record { fits = omega (arith, f.room.fits, p.put.ends, put_length p.put, hexadecimal_length 4 n) } }

pub four_wrote : {v v₁ v₂ v₃ v₄ : Writer} (n : ℕ) {a b c d : ℕ}
    → a ≡ digit_of (n / 16 / 16 / 16 % 16) → b ≡ digit_of (n / 16 / 16 % 16) → c ≡ digit_of (n / 16 % 16) → d ≡ digit_of (n % 16)
    → Wrote v (a ∷ []) v₁ → Wrote v₁ (b ∷ []) v₂ → Wrote v₂ (c ∷ []) v₃ → Wrote v₃ (d ∷ []) v₄ → Wrote v (hexadecimal 4 n) v₄
four_wrote n ea eb ec ed p q r s = record {
  same_bytes = (wrote_then (wrote_then (wrote_then p q) r) s).same_bytes;
  put = four_put n ea eb ec ed p.put q.put r.put s.put;
}

-- the words that were put down so far
pub record WordsWrote (words : List ℕ) (before : Writer) (k : ℕ) (after : Writer) : Type 0 where
  pub same_bytes : after.bytes.ghost_name ≡ before.bytes.ghost_name
  pub so_far : WordsPut words before.bytes.now before.at k after.bytes.now after.at

pub no_words : (words : List ℕ) (v : Writer) → WordsWrote words v 0 v
no_words words v = record { same_bytes = refl; so_far = words_none words v.bytes.now v.at }

module _ {words : List ℕ} {v w : Writer} {k : ℕ} (p : WordsWrote words v k w) where
  pub one_more_word : {x : Writer} → k < length words → Wrote w (space ∷ hexadecimal 4 (get_or words k 0)) x → WordsWrote words v (k + 1) x
  one_more_word h q = record { same_bytes = q.same_bytes ∙ p.same_bytes; so_far = words_more p.so_far h q.put }

  pub word_fits : Fits v (word_fields words) → k < length words → Fits w (space ∷ hexadecimal 4 (get_or words k 0))
  word_fits f h = record { room = words_room p.so_far f.room h }

  pub each_word : length words ≤ k → Wrote v (word_fields words) w
  each_word h = record { same_bytes = p.same_bytes; put = words_all p.so_far h }

-- what the lent bytes hold once the writer that held them has ended
pub line_wrote : (w : Writer) (line bytes : List ℕ) {after : List ℕ} → (w.at ≡ length_in line bytes) × (w.bytes.now ≡ line_in line bytes) → after ≡ w.bytes.now
    → (w.at ≡ length_in line bytes) × (after ≡ line_in line bytes)
line_wrote w line bytes p e = (p.0, e ∙ p.1)
