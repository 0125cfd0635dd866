-- What is written is read back, what is read is written back, and a file is accepted exactly when it is the file of some contents.
use Rattle.std.specs.Prelude.{◌≡◌, true, ℕ, ◌+◌, ◌*◌, ◌≤◌, ◌<◌, take, drop}
use Rattle.std.proofs.Math.Path.{refl}
use Rattle.std.proofs.Common.{sym, ap, ◌∙◌}
use mathlib.Core.List.{List, [], ◌∷◌, ◌++◌, append_assoc, append-nil}
use native.Mathlib.Omega.{arith}
use Rattle.std.proofs.Math.ListN.{length, length-append}
use Rattle.std.proofs.Math.Seq.{take_at, drop_at, take_all}
use borrow.Author.Tests.{le-leb}
use Rattle.answers.specs.Answers.{Done}
use Rattle.answers.specs.Numbers.{is_done}
use Rattle.runfile.specs.declared.numbers.EightNumbers.{EightNumbers}
use Rattle.runfile.specs.Files.{Contents, head_words, file_of, file_length, contents_fit, words_at, numbers_of, read_answer, read_contents, sections_of}
use Rattle.runfile_writing.specs.Writing.{write_answer, written}
use Rattle.runfile.specs.Facts.{Below, Accepted, SixteenBits, FileOfSome}
use Rattle.runfile.specs.WordLaws.{words_length, words_add, words_below, word_below, word_bytes, below_none, below_cons, below_append, bytes_below, words_bytes, bytes_words}
use Rattle.runfile.specs.FileLaws.{counts_facts, counts_kept_lem, accepted, accepted_done, read_done, file_length_lem}
use Rattle.runfile_writing.specs.WritingLaws.{write_facts}

-- ---- what is written is read back

module _ (c : Contents) where
  abbrev words : List ℕ
  words = head_words c ++ (c.program ++ (c.data_words ++ c.input))

  abbrev numbers : EightNumbers
  numbers =
      record {
        version = 1;
        program_count = length c.program;
        program_offset = 16;
        data_count = length c.data_words;
        data_offset = 16 + 2 * length c.program;
        input_count = length c.input;
        input_offset = 16 + 2 * length c.program + 2 * length c.data_words;
        budget = c.budget;
      }

  file_numbers : numbers_of (file_of c) ≡ numbers
  unfolding numbers_of file_of head_words
  file_numbers =
      simp (
        word_bytes words 0,
        word_bytes words 1,
        word_bytes words 2,
        word_bytes words 3,
        word_bytes words 4,
        word_bytes words 5,
        word_bytes words 6,
        word_bytes words 7,
      )

  -- the section that follows some words of the file
  section : (before part after : List ℕ) (at : ℕ) → words ≡ before ++ (part ++ after) → at ≡ 2 * length before → words_at (file_of c) at (length part) ≡ part
  unfolding file_of
  section before part after at e f =
      let room : length before + length part ≤ length words = rw e (simp length-append (omega arith)) in
      rw f
      (words_bytes words (length part) (length before) room
      ∙ rw (e, drop_at before (part ++ after) (length before) refl) (take_at part after (length part) refl))

  file_sections : sections_of (file_of c) ≡ c
  unfolding sections_of head_words
  file_sections =
      let p = section (head_words c) c.program (c.data_words ++ c.input) 16 refl refl in
      let d =
      section (head_words c ++ c.program) c.data_words c.input (16 + 2 * length c.program) refl (omega arith)
      in
      let i =
      section
      (head_words c ++ (c.program ++ c.data_words))
      c.input []
      (16 + 2 * length c.program + 2 * length c.data_words)
      (simp (append_assoc, append-nil))
      (simp length-append (omega arith))
      in
      simp (file_numbers, p, d, i)

  module _ (within : contents_fit c ≡ true) where
    file_accepted : Accepted (file_of c)
    unfolding contents_fit file_length
    file_accepted =
        let counts = counts_facts _ _ _ within in
        let size = file_length_lem c in
        record {
          head_there = rw size (omega arith);
          version_one = rw file_numbers;
          rules =
              rw file_numbers
              (record { counts = counts; program_starts = refl; data_starts = refl; input_starts = refl; file_ends = size });
        }

    -- The file of contents within the limits is accepted, and reads as these contents.
    pub file_read : (read_answer (file_of c) ≡ Done) × (read_contents (file_of c) ≡ c)
    file_read =
        let done = accepted_done (file_of c) file_accepted in
        (done, read_done (file_of c) (ap is_done done) ∙ file_sections)

    head_below : c.budget < 65536 → Below 65536 (head_words c)
    unfolding contents_fit head_words
    head_below h =
        let counts = counts_facts _ _ _ within in
        below_cons (omega arith)
        (below_cons (omega arith)
        (below_cons (omega arith)
        (below_cons (omega arith)
        (below_cons (omega arith)
        (below_cons (omega arith)
        (below_cons (omega arith)
        (below_cons h (below_none (omega arith)))))))))

    file_below : SixteenBits c → Below 256 (file_of c)
    unfolding file_of
    file_below s =
        bytes_below words
        (below_append (head_words c) _ (head_below s.budget)
        (below_append c.program _ s.program
        (below_append c.data_words _ s.data_words s.input)))

  -- Every file that the writer makes reads back to the same contents.
  pub written_read : (bytes : List ℕ) → write_answer c bytes ≡ Done
      → (read_answer (take (length (file_of c)) (written c bytes)) ≡ Done) × (read_contents (take (length (file_of c)) (written c bytes)) ≡ c)
  unfolding written
  written_read bytes h =
      let w = write_facts c bytes h in
      rw (h, take_at (file_of c) (drop (length (file_of c)) bytes) (length (file_of c)) refl) (file_read w.0)

-- No two contents within the limits have the same file.
pub file_injective : (c d : Contents) → contents_fit c ≡ true → contents_fit d ≡ true → file_of c ≡ file_of d → c ≡ d
file_injective c d hc hd e = sym (file_read c hc).1 ∙ ap read_contents e ∙ (file_read d hd).1

-- ---- what is read is written back

module _ (bytes : List ℕ) where
  abbrev n : EightNumbers
  n = numbers_of bytes

  abbrev all : ℕ
  all = 8 + (n.program_count + (n.data_count + n.input_count))

  eight_words : words_at bytes 0 8
      ≡ n.version ∷ n.program_count ∷ n.program_offset ∷ n.data_count ∷ n.data_offset ∷ n.input_count ∷ n.input_offset ∷ n.budget ∷ []
  unfolding words_at numbers_of
  eight_words = refl

  module _ (a : Accepted bytes) where
    head_again : head_words (sections_of bytes) ≡ words_at bytes 0 8
    unfolding head_words sections_of
    head_again =
        let r = a.rules in
        let data_at : n.data_offset ≡ 16 + 2 * n.program_count = omega arith in
        let input_at : n.input_offset ≡ 16 + 2 * n.program_count + 2 * n.data_count = omega arith in
        rw (eight_words, a.version_one, r.program_starts, data_at, input_at) (simp words_length)

    sections_again : words_at bytes 0 all ≡ head_words (sections_of bytes) ++ ((sections_of bytes).program ++ ((sections_of bytes).data_words ++ (sections_of bytes).input))
    unfolding sections_of
    sections_again =
        let r = a.rules in
        let program_at : 0 + 2 * 8 ≡ n.program_offset = omega arith in
        let data_at : n.program_offset + 2 * n.program_count ≡ n.data_offset = omega arith in
        let input_at : n.data_offset + 2 * n.data_count ≡ n.input_offset = omega arith in
        rw (
          head_again,
          words_add bytes 0 8 (n.program_count + (n.data_count + n.input_count)),
          program_at,
          words_add bytes n.program_offset n.program_count (n.data_count + n.input_count),
          data_at,
          words_add bytes n.data_offset n.data_count n.input_count,
          input_at,
        )

    module _ (below : Below 256 bytes) where
      file_again : file_of (sections_of bytes) ≡ bytes
      unfolding file_of
      file_again =
          let r = a.rules in
          let size : length bytes ≡ 2 * all = omega arith in
          rw (← sections_again) (bytes_words bytes below all 0 (omega arith) ∙ take_all (2 * all) bytes (omega arith))

      sections_sixteen_bits : SixteenBits (sections_of bytes)
      unfolding sections_of numbers_of
      sections_sixteen_bits =
          record {
            program = words_below bytes below _ _;
            data_words = words_below bytes below _ _;
            input = words_below bytes below _ _;
            budget = word_below bytes below 14;
          }

      sections_within : contents_fit (sections_of bytes) ≡ true
      unfolding contents_fit sections_of
      sections_within = simp words_length (counts_kept_lem _ _ _ a.rules.counts)

  module _ (below : Below 256 bytes) (done : read_answer bytes ≡ Done) where
    abbrev facts : Accepted bytes
    facts = accepted bytes (ap is_done done)

    -- An accepted file is the file of what it reads as ..
    pub read_file : file_of (read_contents bytes) ≡ bytes
    read_file = rw (read_done bytes (ap is_done done)) (file_again facts below)

    pub read_within : contents_fit (read_contents bytes) ≡ true
    read_within = rw (read_done bytes (ap is_done done)) (sections_within facts below)

    pub read_sixteen_bits : SixteenBits (read_contents bytes)
    read_sixteen_bits = rw (read_done bytes (ap is_done done)) (sections_sixteen_bits facts below)

    -- .. so that it is written back to the same bytes, wherever they fit.
    pub read_written : (room : List ℕ) → length bytes ≤ length room
        → (write_answer (read_contents bytes) room ≡ Done) × (written (read_contents bytes) room ≡ bytes ++ drop (length bytes) room)
    unfolding written write_answer
    read_written room h = simp (read_file, read_within, le-leb _ _ h) (refl, refl)

  -- Some bytes are accepted exactly when they are the file of some contents, within the limits, of 16-bit words.
  pub accepted_is_file : Below 256 bytes → read_answer bytes ≡ Done → FileOfSome bytes
  accepted_is_file below done =
      record {
        contents = read_contents bytes;
        within = read_within below done;
        sixteen_bits = read_sixteen_bits below done;
        same_bytes = read_file below done;
      }

  pub file_is_accepted : FileOfSome bytes → (Below 256 bytes) × (read_answer bytes ≡ Done)
  file_is_accepted f =
      rw (← f.same_bytes)
      (file_below f.contents f.within f.sixteen_bits, (file_read f.contents f.within).0)
