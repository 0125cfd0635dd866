-- Laws of writing: the file put down part by part, and what each answer leaves.
use Rattle.std.specs.Prelude.{◌≡◌, Bool, List, [], ◌∷◌, ℕ, ◌+◌, ◌*◌, ◌≤◌, ◌<◌, ◌/◌, ◌%◌, set, get_or}
use Rattle.std.specs.Int.{w16, to_le_bytes}
use Rattle.std.proofs.Math.Path.{refl}
use Rattle.std.proofs.Common.{ap, ◌∙◌, add-one, arith}
use Rattle.std.proofs.Math.Bool.{true, false}
use Rattle.std.proofs.lemmas.Bool.{false≢true}
use Rattle.std.proofs.Math.Dec.{leb}
use Rattle.std.proofs.Math.ListN.{length}
use Rattle.std.proofs.lemmas.List.Edits.{sets}
use borrow.Author.Tests.{leb-true, le-leb, lt-leb}
use Rattle.answers.specs.Answers.{Done, FileRules, FileNoRoom}
use Rattle.answers.specs.Numbers.{is_done}
use Rattle.runfile.specs.Files.{Contents, bytes_of, head_words, file_of, file_length, contents_fit}
use Rattle.runfile.specs.Facts.{CountsKept}
use Rattle.runfile.specs.FileLaws.{counts_facts, file_length_lem}
use Rattle.runfile.specs.WordLaws.{bytes_length, bytes_append}
use Rattle.basic_laws.specs.Stores.{sets_append, sets_front}
use Rattle.runfile_writing.specs.Writing.{contents, write_answer, written}

-- the two bytes of a word, one after the other
pub word_put : (l : List ℕ) (at low high : ℕ) → set (set l at low) (at + 1) high ≡ sets l at (low ∷ high ∷ [])
word_put l at low high = rw add-one

-- the same of a word's bytes as std gives them
pub word_stored : (l : List ℕ) (at word : ℕ) {bytes : List ℕ} → word < 65536 → bytes ≡ to_le_bytes w16 word
    → set (set l at (get_or bytes 0 0)) (at + 1) (get_or bytes 1 0) ≡ sets l at (bytes_of (word ∷ []))
unfolding bytes_of
word_stored l at word h e =
    let high : word / 256 % 256 ≡ word / 256 = omega arith in
    rw (e, high) (word_put l at (word % 256) (word / 256))

head_length : (c : Contents) → 0 + length (bytes_of (head_words c)) ≡ 16
unfolding head_words bytes_of
head_length c = refl

-- the head and the three sections, put down one after another
module _ (c : Contents) (l l₁ l₂ l₃ l₄ : List ℕ) where
  pub file_put : l₁ ≡ sets l 0 (bytes_of (head_words c)) → l₂ ≡ sets l₁ 16 (bytes_of c.program)
      → l₃ ≡ sets l₂ (16 + 2 * length c.program) (bytes_of c.data_words)
      → l₄ ≡ sets l₃ (16 + 2 * length c.program + 2 * length c.data_words) (bytes_of c.input) → l₄ ≡ sets l 0 (file_of c)
  unfolding file_of
  file_put head program data_words input =
      rw (
        bytes_append (head_words c),
        sets_append (bytes_of (head_words c)),
        head_length,
        ← head,
        bytes_append c.program,
        sets_append (bytes_of c.program),
        bytes_length c.program,
        ← program,
        bytes_append c.data_words,
        sets_append (bytes_of c.data_words),
        bytes_length c.data_words,
        ← data_words,
      )
      input

module _ (c : Contents) (bytes : List ℕ) where
  pub write_rules : contents_fit c ≡ false → (FileRules ≡ write_answer c bytes) × (bytes ≡ written c bytes)
  unfolding write_answer written
  write_rules h = simp h (refl, refl)

  pub write_no_room : contents_fit c ≡ true → length bytes < length (file_of c) → (FileNoRoom ≡ write_answer c bytes) × (bytes ≡ written c bytes)
  unfolding write_answer written
  write_no_room h room = simp (h, lt-leb _ _ room) (refl, refl)

  pub write_done : (after : List ℕ) → contents_fit c ≡ true → length (file_of c) ≤ length bytes → after ≡ sets bytes 0 (file_of c)
      → (Done ≡ write_answer c bytes) × (after ≡ written c bytes)
  unfolding write_answer written
  write_done after h room e = simp (h, le-leb _ _ room) (refl, e ∙ sets_front (file_of c) bytes room)

  pub write_facts : write_answer c bytes ≡ Done → (contents_fit c ≡ true) × (length (file_of c) ≤ length bytes)
  unfolding write_answer
  write_facts h = by (contents_fit c) refl (leb (length (file_of c)) (length bytes)) refl
    where
      by : (within : Bool) → contents_fit c ≡ within → (room : Bool) → leb (length (file_of c)) (length bytes) ≡ room
          → (contents_fit c ≡ true) × (length (file_of c) ≤ length bytes)
      by false w room r = absurd (false≢true (ap is_done (simp w at h)))
      by true w false r = absurd (false≢true (ap is_done (simp (w, r) at h)))
      by true w true r = (w, leb-true _ _ r)

-- what the lists of contents within the limits are known by: their counts, and how long the file is
module _ (program data_words input : List ℕ) (budget : ℕ) {c : Contents} (is : contents program data_words input budget ≡ c) (within : contents_fit c ≡ true) where
  pub counts_within : CountsKept (length program) (length data_words) (length input)
  unfolding contents_fit
  counts_within = counts_facts _ _ _ (rw (← is) at within)

  pub length_within : length (file_of c) ≡ file_length (length program) (length data_words) (length input)
  length_within = rw (← is) (file_length_lem (contents program data_words input budget))
