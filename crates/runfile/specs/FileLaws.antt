-- Laws of a file's tests, of its length, and of what it reads as.
use Rattle.std.specs.Prelude.{◌≡◌, Bool, List, ℕ, length, Result, Ok, Err}
use Rattle.std.specs.Result.{MatchResult, is_ok}
use Rattle.std.proofs.Math.Path.{refl}
use Rattle.std.proofs.Common.{sym, ap, ◌∙◌, arith, length-append}
use Rattle.std.proofs.Math.Bool.{true, false}
use Rattle.std.proofs.lemmas.Bool.{false≢true}
use Rattle.std.proofs.Math.Dec.{ltb, eqb}
use borrow.Author.Tests.{leb-true, le-leb, eqb-true, eq-eqb, ltb-false, le-ltb}
use Rattle.basic_laws.specs.Tests.{both_hold}
use Rattle.answers.specs.Answers.{Answer, Done}
use Rattle.answers.specs.declared.Refusal.{Refusal}
use Rattle.answers.specs.Numbers.{is_done}
use Rattle.runfile.specs.declared.numbers.EightNumbers.{EightNumbers}
use Rattle.runfile.specs.declared.reading.Head.{Head}
use Rattle.answers.specs.Answers.{where_done}
use Rattle.runfile.specs.Files.{Contents, head_words, file_of, file_length, counts_kept, numbers_of, rules_kept, read_answer, read_contents, sections_of, no_contents, counts_of, head_of}
use Rattle.runfile.specs.Facts.{CountsKept, RulesKept, Accepted}
use Rattle.runfile.specs.WordLaws.{bytes_length, words_length}

pub counts_facts : (p d i : ℕ) → counts_kept p d i ≡ true → CountsKept p d i
unfolding counts_kept
counts_facts p d i h =
    let input' = both_hold _ _ h in
    let data' = both_hold _ _ input'.0 in
    record { program_most = leb-true _ _ data'.0; data_most = leb-true _ _ data'.1; input_most = leb-true _ _ input'.1 }

pub counts_kept_lem : (p d i : ℕ) → CountsKept p d i → counts_kept p d i ≡ true
unfolding counts_kept
counts_kept_lem p d i k = simp (le-leb _ _ k.program_most, le-leb _ _ k.data_most, le-leb _ _ k.input_most)

module _ (n : EightNumbers) (bytes_count : ℕ) where
  pub rules_facts : rules_kept n bytes_count ≡ true → RulesKept n bytes_count
  unfolding rules_kept
  rules_facts h =
      let file' = both_hold _ _ h in
      let input' = both_hold _ _ file'.0 in
      let data' = both_hold _ _ input'.0 in
      let program' = both_hold _ _ data'.0 in
      record {
        counts = counts_facts _ _ _ program'.0;
        program_starts = eqb-true _ _ program'.1;
        data_starts = eqb-true _ _ data'.1;
        input_starts = eqb-true _ _ input'.1;
        file_ends = eqb-true _ _ file'.1;
      }

  pub rules_kept_lem : RulesKept n bytes_count → rules_kept n bytes_count ≡ true
  unfolding rules_kept
  rules_kept_lem r =
      simp (
        counts_kept_lem _ _ _ r.counts,
        eq-eqb _ _ r.program_starts,
        eq-eqb _ _ r.data_starts,
        eq-eqb _ _ r.input_starts,
        eq-eqb _ _ r.file_ends,
      )

-- what stands under an Ok, and under an Err
abbrev value_in : {T : Type 0} → T → Result T Refusal → T
value_in other (Ok value) = value
value_in other (Err refusal) = other

abbrev refusal_in : {T : Type 0} → Refusal → Result T Refusal → Refusal
refusal_in other (Ok value) = other
refusal_in other (Err refusal) = refusal

-- a value that is given where an answer is done, and what is given where it is a refusal
pub given_done : {T : Type 0} (a : Answer) (value : T) {found : T} → where_done a value ≡ Ok found → (is_done a ≡ true) × (found ≡ value)
given_done (Ok _) value e = (refl, sym (ap (value_in value) e))
given_done (Err refusal) value e = absurd (false≢true (ap is_ok e))

pub given_refused : {T : Type 0} (a : Answer) (value : T) {refusal : Refusal} → where_done a value ≡ Err refusal → a ≡ Err refusal
given_refused (Ok _) value e = absurd (false≢true (sym (ap is_ok e)))
given_refused (Err other) value {refusal} e = ap (λ (r : Refusal). Err r) (ap (refusal_in refusal) e)

-- "A refused file" has no counts
abbrev no_head : Head
no_head = record { program_count = 0; data_count = 0; input_count = 0; budget = 0 }

module _ (bytes : List ℕ) where
  pub accepted : is_done (read_answer bytes) ≡ true → Accepted bytes
  unfolding read_answer
  accepted h = by (ltb (length bytes) 16) refl (eqb (numbers_of bytes).version 1) refl (rules_kept (numbers_of bytes) (length bytes)) refl
    where
      by : (short : Bool) → ltb (length bytes) 16 ≡ short → (one : Bool) → eqb (numbers_of bytes).version 1 ≡ one → (kept : Bool)
          → rules_kept (numbers_of bytes) (length bytes) ≡ kept → Accepted bytes
      by true s one v kept r = absurd (false≢true (simp s at h))
      by false s false v kept r = absurd (false≢true (simp (s, v) at h))
      by false s true v false r = absurd (false≢true (simp (s, v, r) at h))
      by false s true v true r =
          record { head_there = ltb-false _ _ s; version_one = eqb-true _ _ v; rules = rules_facts _ _ r }

  pub accepted_done : Accepted bytes → read_answer bytes ≡ Done
  unfolding read_answer
  accepted_done a = simp (le-ltb _ _ a.head_there, eq-eqb _ _ a.version_one, rules_kept_lem _ _ a.rules)

  pub read_done : is_done (read_answer bytes) ≡ true → read_contents bytes ≡ sections_of bytes
  unfolding read_contents
  read_done h = simp h

  pub read_refused : is_done (read_answer bytes) ≡ false → read_contents bytes ≡ no_contents
  unfolding read_contents
  read_refused h = simp h

  -- a section has as many words as its count says
  pub section_lengths : (length (sections_of bytes).program ≡ (numbers_of bytes).program_count)
      × (length (sections_of bytes).data_words ≡ (numbers_of bytes).data_count)
      × (length (sections_of bytes).input ≡ (numbers_of bytes).input_count)
  unfolding sections_of
  section_lengths = (words_length _ _ _, words_length _ _ _, words_length _ _ _)

  -- the counts and the budget of a file that is accepted
  pub head_read : is_done (read_answer bytes) ≡ true → head_of (read_contents bytes) ≡ counts_of (numbers_of bytes)
  unfolding head_of sections_of
  head_read h = rw (read_done h) (simp words_length)

  pub head_refused : is_done (read_answer bytes) ≡ false → head_of (read_contents bytes) ≡ no_head
  unfolding head_of
  head_refused h = rw (read_refused h)

  -- the counts and the budget where the numbers are given, and where they are refused
  pub head_given : (head : Head) → MatchResult (where_done (read_answer bytes) (numbers_of bytes)) (λ n. head ≡ counts_of n) (λ _. head ≡ no_head)
      → head ≡ head_of (read_contents bytes)
  head_given head = by (read_answer bytes) refl
    where
      by : (a : Answer) → read_answer bytes ≡ a
          → MatchResult (where_done a (numbers_of bytes)) (λ n. head ≡ counts_of n) (λ _. head ≡ no_head)
          → head ≡ head_of (read_contents bytes)
      by (Ok _) e h = h ∙ sym (head_read (ap is_done e))
      by (Err refusal) e h = h ∙ sym (head_refused (ap is_done e))

-- how long the file of some contents is
pub file_length_lem : (c : Contents) → length (file_of c) ≡ file_length (length c.program) (length c.data_words) (length c.input)
unfolding file_of file_length head_words
file_length_lem c = bytes_length _ ∙ simp length-append (omega arith)
