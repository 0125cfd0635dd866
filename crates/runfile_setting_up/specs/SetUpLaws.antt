-- Laws of set-up: what is known where it is done, and what the slices then hold.
use Rattle.std.specs.Prelude.{◌≡◌, Bool, cond, ◌&&◌, List, ℕ, eqb, Ok, Err}
use Rattle.std.proofs.Math.Path.{refl, ap}
use Rattle.std.proofs.Common.{sym, ◌∙◌, arith}
use Rattle.std.proofs.Math.Bool.{true, false}
use Rattle.std.proofs.lemmas.Bool.{false≢true}
use Rattle.std.proofs.Math.ListN.{length}
use Rattle.std.proofs.lemmas.List.Edits.{sets}
use borrow.Author.Tests.{eqb-true}
use Rattle.basic_laws.specs.Tests.{both_hold}
use Rattle.answers.specs.Answers.{Done, SlicesUnfit}
use Rattle.answers.specs.declared.Refusal.{Refusal}
use Rattle.answers.specs.Numbers.{is_done}
use Rattle.board.specs.Slices.{memories_fit}
use Rattle.board.specs.SliceFacts.{MemoriesFit}
use Rattle.board.specs.SliceLaws.{memories_fit_lem}
use Rattle.runfile.specs.declared.numbers.EightNumbers.{EightNumbers}
use Rattle.answers.specs.Answers.{where_done}
use Rattle.runfile.specs.Files.{Contents, numbers_of, read_answer, read_contents, sections_of, words_at}
use Rattle.runfile.specs.WordLaws.{words_length}
use Rattle.basic_laws.specs.Stores.{sets_whole}
use Rattle.runfile.specs.FileLaws.{accepted, given_done, given_refused, read_done, section_lengths}
use Rattle.runfile_setting_up.specs.SetUp.{Lent, lent, lent_fit, set_up_answer, memory_with, loaded, set_up}
use Rattle.runfile_setting_up.specs.SetUpFacts.{SetUpDone}
use Rattle.runfile_setting_up.specs.MemoryLaws.{memory_length}

module _ (bytes : List ℕ) where
  pub set_up_done : (l : Lent) → is_done (set_up_answer bytes l) ≡ true → SetUpDone bytes l
  unfolding set_up_answer lent_fit
  set_up_done l h = by (is_done (read_answer bytes)) refl (lent_fit (read_contents bytes) l) refl
    where
      by : (read : Bool) → is_done (read_answer bytes) ≡ read → (fit : Bool) → lent_fit (read_contents bytes) l ≡ fit → SetUpDone bytes l
      by false r fit f = absurd (false≢true (simp r at h))
      by true r false f = absurd (false≢true (simp (r, f) at h))
      by true r true f =
          let p = both_hold _ _ f in
          record {
            file_done = r;
            file_accepted = accepted bytes r;
            memories = memories_fit_lem _ _ p.0;
            input_size = eqb-true _ _ p.1 ∙ ap (λ (c : Contents). length c.input) (read_done bytes r) ∙ (section_lengths bytes).2;
          }

  pub set_up_kept : (l : Lent) → is_done (set_up_answer bytes l) ≡ false → set_up bytes l ≡ l
  unfolding set_up
  set_up_kept l h = simp h

  pub set_up_loaded : (l : Lent) → is_done (set_up_answer bytes l) ≡ true → set_up bytes l ≡ loaded (sections_of bytes)
  unfolding set_up
  set_up_loaded l h = simp h (ap loaded (read_done bytes (set_up_done l h).file_done))

  -- what was set up still fits
  pub set_up_fits : (l : Lent) → is_done (set_up_answer bytes l) ≡ true → MemoriesFit (set_up bytes l).rom (set_up bytes l).data_memory
  unfolding loaded sections_of
  set_up_fits l h =
      let counts = (set_up_done l h).file_accepted.rules.counts in
      rw (set_up_loaded l h)
      (record {
        rom_size = memory_length _ _ (rw words_length (omega arith));
        data_size = memory_length _ _ (rw words_length (omega arith));
      })

  -- each slice, once the sections are loaded
  pub set_up_stored : (l after : Lent) → is_done (set_up_answer bytes l) ≡ true → after ≡ loaded (sections_of bytes)
      → (after.rom ≡ (set_up bytes l).rom) × ((after.data_memory ≡ (set_up bytes l).data_memory) × (after.input ≡ (set_up bytes l).input))
  set_up_stored l after h e = rw (set_up_loaded l h, e) (refl, (refl, refl))

  pub sections_stored : (rom data_memory input₀ input : List ℕ) (n : EightNumbers) → length input₀ ≡ (numbers_of bytes).input_count → n ≡ numbers_of bytes
      → rom ≡ memory_with 0 (words_at bytes n.program_offset n.program_count)
      → data_memory ≡ memory_with 0x400 (words_at bytes n.data_offset n.data_count)
      → input ≡ sets input₀ 0 (words_at bytes n.input_offset n.input_count) → lent rom data_memory input ≡ loaded (sections_of bytes)
  unfolding loaded sections_of
  sections_stored rom data_memory input₀ input n size e r d i =
      let whole : length (words_at bytes n.input_offset n.input_count) ≡ length input₀ = words_length _ _ _ ∙ rw (size, e) in
      let stored : input ≡ words_at bytes n.input_offset n.input_count = i ∙ sets_whole _ _ whole in
      rw (r, d, stored, e)

  -- the same, with the input words as many as the slice has
  pub sections_loaded : (rom data_memory input₀ input : List ℕ) (n : EightNumbers) → length input₀ ≡ (numbers_of bytes).input_count → n ≡ numbers_of bytes
      → rom ≡ memory_with 0 (words_at bytes n.program_offset n.program_count)
      → data_memory ≡ memory_with 0x400 (words_at bytes n.data_offset n.data_count)
      → input ≡ words_at bytes n.input_offset (length input₀) → lent rom data_memory input ≡ loaded (sections_of bytes)
  sections_loaded rom data_memory input₀ input n size e r d i =
      let count : length input₀ ≡ n.input_count = rw e size in
      sections_stored rom data_memory input₀ input n size e r d (rw (i, count) (sym (sets_whole _ _ (rw (words_length, count)))))

module _ (bytes : List ℕ) (l : Lent) where
  -- a file that is refused, and one that is accepted, with a test of the slices
  pub set_up_refused : {refusal : Refusal} → where_done (read_answer bytes) (numbers_of bytes) ≡ Err refusal
      → Err refusal ≡ where_done (set_up_answer bytes l) (numbers_of bytes)
  unfolding set_up_answer
  set_up_refused e = rw (given_refused _ _ e)

  pub set_up_tested : {n : EightNumbers} {memories : Bool} {count : ℕ} → where_done (read_answer bytes) (numbers_of bytes) ≡ Ok n
      → memories ≡ memories_fit l.rom l.data_memory → count ≡ n.input_count → (fit : Bool) → memories && eqb (length l.input) count ≡ fit
      → cond fit (Ok n) (Err Refusal.SlicesUnfit) ≡ where_done (set_up_answer bytes l) (numbers_of bytes)
  unfolding set_up_answer lent_fit
  set_up_tested {n} e m k fit f =
      let d = given_done _ _ e in
      let words : length (read_contents bytes).input ≡ n.input_count = rw (read_done bytes d.0, d.1) (section_lengths bytes).2 in
      simp (d.0, words, rw (m, k) at f) (by fit d.1)
    where
      by : (fit : Bool) → n ≡ numbers_of bytes → cond fit (Ok n) (Err Refusal.SlicesUnfit) ≡ where_done (cond fit Done SlicesUnfit) (numbers_of bytes)
      by true same = ap (λ (k : EightNumbers). Ok k) same
      by false same = refl
