-- Laws of what `replay` prints: what is set up and run gives the definition's line, and a longer file can be cut.
use Rattle.std.specs.Prelude.{◌≡◌, refl, Bool, true, false, cond, List, ◌++◌, ℕ, ◌≤◌, ◌<◌, ltb, eqb, length, take, drop, get_or, replicate}
use Rattle.std.proofs.Common.{sym, ◌∙◌, arith, length-append, length-take-le}
use Rattle.std.proofs.Math.Path.{ap}
use Rattle.std.proofs.Math.Seq.{get_or-take}
use borrow.Author.Tests.{eq-eqb, le-ltb}
use Rattle.machine.specs.declared.Machine.{Machine}
use Rattle.machine.specs.Reset.{reset_machine}
use Rattle.answers.specs.Answers.{Done, FileShort, FileRules, FileVersion}
use Rattle.answers.specs.Numbers.{is_done}
use Rattle.board.specs.Slices.{memories_fit}
use Rattle.board.specs.Given.{given}
use Rattle.runfile.specs.declared.reading.Head.{Head}
use Rattle.runfile.specs.Files.{numbers_of, rules_kept, read_answer, read_contents, head_of}
use Rattle.runfile_setting_up.specs.SetUp.{lent, lent_fit, set_up_answer, loaded, set_up}
use Rattle.runfile.specs.FileLaws.{accepted, head_read, rules_facts}
use Rattle.emulator.specs.declared.Ran.{Ran}
use Rattle.emulator.specs.Outcomes.{ran}
use Rattle.steps.specs.Step.{run_of}
use Rattle.line_fields.specs.Placing.{line_in, length_in}
use Rattle.line.specs.Lines.{line_of, refused_line}
use Rattle.replay_line.specs.Longest.{longest_line}
use Rattle.replay_line.proofs.LongestLaws.{line_whole}
use Rattle.replay_line.specs.Replay.{start_of, replay_run, run_line, replay_line, given_of}
use Rattle.replaying.specs.Facts.{FreshSlices}

-- what was put down of a line, where the line has another name
pub placed_as : (bytes : List ℕ) {line other after : List ℕ} {n : ℕ} → line ≡ other → (n ≡ length_in line bytes) × (after ≡ line_in line bytes)
    → (n ≡ length_in other bytes) × (after ≡ line_in other bytes)
placed_as bytes e p = rw (← e) p

module _ (bytes : List ℕ) where
  pub refused_replay : is_done (read_answer bytes) ≡ false → refused_line (read_answer bytes) ≡ replay_line bytes
  unfolding replay_line
  refused_replay h = simp h

  accepted_replay : is_done (read_answer bytes) ≡ true → run_line (replay_run (read_contents bytes)) ≡ replay_line bytes
  unfolding replay_line
  accepted_replay h = simp h

  module _ (head : Head) (done : is_done (read_answer bytes) ≡ true) (e : head ≡ head_of (read_contents bytes)) where
    pub input_most : head.input_count ≤ 1024
    input_most = rw (e, head_read bytes done) (accepted bytes done).rules.counts.input_most

    pub input_counted : head.input_count ≡ length (read_contents bytes).input
    unfolding head_of
    input_counted = rw e

    pub budget_read : head.budget ≡ (read_contents bytes).budget
    unfolding head_of
    budget_read = rw e

    -- what `replay` lends for it
    pub fresh : (rom data_memory port output : List ℕ) → 4096 ≡ length rom → 4096 ≡ length data_memory → 1024 ≡ length port → output ≡ replicate 1024 0
        → FreshSlices bytes rom data_memory (take head.input_count port) output
    fresh rom data_memory port output r d i o =
        record {
          rom_size = sym r;
          data_size = sym d;
          input_size = length-take-le _ port (omega (arith, input_most)) ∙ input_counted;
          output_zeros = o;
        }

  module _ {rom data_memory input output : List ℕ} (done : is_done (read_answer bytes) ≡ true) (f : FreshSlices bytes rom data_memory input output) where
    fresh_fit : lent_fit (read_contents bytes) (lent rom data_memory input) ≡ true
    unfolding lent_fit memories_fit
    fresh_fit = simp (eq-eqb _ _ f.rom_size, eq-eqb _ _ f.data_size, eq-eqb _ _ f.input_size)

    fresh_loaded : set_up bytes (lent rom data_memory input) ≡ loaded (read_contents bytes)
    unfolding set_up set_up_answer
    fresh_loaded = simp (done, fresh_fit)

    -- an accepted file that is set up in fresh slices and run from reset gives its line
    pub run_replay : {rom₁ data₁ input₁ data₂ output₂ : List ℕ} {m : Machine} {budget : ℕ} (r : Ran) → budget ≡ (read_contents bytes).budget
        → rom₁ ≡ (set_up bytes (lent rom data_memory input)).rom
        → data₁ ≡ (set_up bytes (lent rom data_memory input)).data_memory
        → input₁ ≡ (set_up bytes (lent rom data_memory input)).input
        → m ≡ reset_machine
        → ran r data₂ output₂ ≡ run_of (given rom₁ input₁) budget (record { m = m; «data» = data₁; output = output })
        → line_of r.answer r.steps r.m output₂ ≡ replay_line bytes
    unfolding run_line replay_run given_of start_of
    run_replay {data₂ = data₂} {output₂ = output₂} r b e₁ e₂ e₃ e₄ e =
        let same : ran r data₂ output₂ ≡ replay_run (read_contents bytes) = e ∙ rw (e₁, e₂, e₃, e₄, b, fresh_loaded, f.output_zeros) in
        ap run_line same ∙ accepted_replay done

-- in bytes that hold every line, the line stands whole
pub placed_whole : (bytes lent : List ℕ) {after : List ℕ} {n : ℕ} → ((i : ℕ) → get_or bytes i 0 < 256) → longest_line ≤ length lent
    → (n ≡ length_in (replay_line bytes) lent) × (after ≡ line_in (replay_line bytes) lent)
    → (n ≡ length (replay_line bytes)) × (after ≡ replay_line bytes ++ drop (length (replay_line bytes)) lent)
placed_whole bytes lent below room p =
    let whole = line_whole bytes lent (record { at = below }) room in
    (p.0 ∙ whole.0, p.1 ∙ whole.1)

-- how many bytes were put down is a count of the bytes that hold them
pub put_counts : (bytes lent : List ℕ) {after : List ℕ} {n : ℕ} → (n ≡ length (replay_line bytes)) × (after ≡ replay_line bytes ++ drop (length (replay_line bytes)) lent)
    → (n ≤ length after) × (n ≡ length (take n after))
put_counts bytes lent {after} {n} p = (most, sym (length-take-le n after most))
  where
    most : n ≤ length after
    most = rw p.1 (omega (arith, p.0, length-append (replay_line bytes) (drop (length (replay_line bytes)) lent)))

-- A file has at most 16,400 bytes (16 and two for each of 4,096 + 3,072 + 1,024 words), so the first 16,401 of a longer one give its line.
too_long : (bytes : List ℕ) → 16401 ≤ length bytes → read_answer bytes ≡ cond (eqb (numbers_of bytes).version 1) FileRules FileVersion
unfolding read_answer
too_long bytes h = by (rules_kept (numbers_of bytes) (length bytes)) refl
  where
    by : (t : Bool) → rules_kept (numbers_of bytes) (length bytes) ≡ t
        → cond (ltb (length bytes) 16) FileShort (cond (eqb (numbers_of bytes).version 1) (cond (rules_kept (numbers_of bytes) (length bytes)) Done FileRules) FileVersion)
        ≡ cond (eqb (numbers_of bytes).version 1) FileRules FileVersion
    by true e =
        let r = rules_facts _ _ e in
        absurd (omega (arith, r.counts.program_most, r.counts.data_most, r.counts.input_most, r.program_starts, r.data_starts, r.input_starts, r.file_ends))
    by false e = simp (le-ltb (length bytes) 16 (omega arith), e)

refused_version : (t : Bool) → is_done (cond t FileRules FileVersion) ≡ false
refused_version true = refl
refused_version false = refl

module _ (bytes : List ℕ) (k : ℕ) (h : 16401 ≤ k) where
  cut_version : (numbers_of (take k bytes)).version ≡ (numbers_of bytes).version
  unfolding numbers_of
  cut_version = rw (get_or-take k bytes 0 0 (omega arith), get_or-take k bytes 1 0 (omega arith))

  pub cut_long : k < length bytes → replay_line (take k bytes) ≡ replay_line bytes
  cut_long longer =
      let whole = too_long bytes (omega arith) in
      let part = too_long (take k bytes) (omega (arith, length-take-le k bytes (omega arith))) in
      let same : read_answer (take k bytes) ≡ read_answer bytes = part ∙ rw cut_version (sym whole) in
      let refused : is_done (read_answer bytes) ≡ false = rw whole (refused_version (eqb (numbers_of bytes).version 1)) in
      sym (refused_replay (take k bytes) (rw same refused)) ∙ rw same (refused_replay bytes refused)
