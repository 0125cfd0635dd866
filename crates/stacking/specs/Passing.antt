-- What the steps of a stack do to the cells that matter, and that they leave the program alone.
use Rattle.std.specs.Prelude.{◌≡◌, Bool, cond, ◌&&◌, List, ℕ, suc, ◌+◌, ◌-◌, ◌≤◌, ltb, set, Option, None}
use Rattle.std.proofs.Math.Path.{refl, sym}
use Rattle.std.proofs.Common.{◌∙◌, arith, lt-ltb, le-ltb}
use Rattle.std.proofs.Math.Bool.{true, false}
use Rattle.std.proofs.lemmas.Bool.{false≢true}
use Rattle.std.proofs.Math.Seq.{get_or-set_other}
use Rattle.alu.specs.Registers.{wrapped_sum}
use Rattle.machine.specs.declared.Machine.{Machine}
use Rattle.pages.specs.Passes.{followed, destination}
use Rattle.pages.specs.MultiplierPages.{APAC, MAC}
use Rattle.board.specs.Regions.{data_region, on_chip, on_chip_region, move_allowed, in_rom, in_program_b0}
use Rattle.board.specs.declared.Region.{Region}
use Rattle.board.specs.declared.Region.TheVariants.{Absent, B2, B0, B1, External}
use Rattle.board.specs.RegionFacts.{Lies}
use Rattle.board.specs.RegionLaws.{region_lies, moves, program_b0}
use Rattle.board.specs.Windows.{window_of, program_word}
use Rattle.board.specs.WindowLaws.{rom_word, b0_word}
use Rattle.laws.proofs.OperandLaws.{Alike}
use Rattle.frame_sums.specs.Frames.{Accumulation, product_added, accumulated}

-- ---- what follows a pass
unfoldable pub accumulation_of : Machine → Accumulation
accumulation_of m = record { acc = m.acc; p = m.p; ov = m.ov }

pub record Follows (m n : Machine) : Type 0 where
  pub accumulation : accumulation_of n ≡ accumulation_of m
  pub ovm : n.ovm ≡ m.ovm
  pub pm : n.pm ≡ m.pm
  pub cnf : n.cnf ≡ m.cnf

follows_by : (t : Bool) (m a b : Machine) → Follows m a → Follows m b → Follows m (cond t a b)
follows_by true m a b f g = f
follows_by false m a b f g = g

pub followed_follows : (m : Machine) (jump : Option ℕ) (words : ℕ) (repeatable : Bool) → Follows m (followed m jump words repeatable)
unfolding followed accumulation_of
followed_follows m jump words repeatable =
    follows_by (repeatable && ltb 0 m.rptc) m _ _
    (record { accumulation = refl; ovm = refl; pm = refl; cnf = refl })
    (record { accumulation = refl; ovm = refl; pm = refl; cnf = refl })

-- a repeat that is pending: RPTC falls by 1 and PC stays; else PC moves past
pub again : (m : Machine) (words k : ℕ) → m.rptc ≡ suc k → ((followed m None words true).rptc ≡ k) × ((followed m None words true).pc ≡ m.pc)
unfolding followed
again m words k e = rw (lt-ltb 0 m.rptc (omega arith)) (omega arith, refl)

pub goes_past : (m : Machine) (words : ℕ) → m.rptc ≡ 0 → (followed m None words true).pc ≡ wrapped_sum m.pc words
unfolding followed destination
goes_past m words e = rw (le-ltb 0 m.rptc (omega arith))

-- ---- APAC and MAC, on the cells that matter
module _ (m n : Machine) (a : Alike m n) where
  pub apac_works : accumulation_of (APAC n) ≡ product_added m.pm m.ovm (accumulation_of m)
  unfolding APAC accumulation_of product_added
  apac_works = rw (a.acc, a.p, a.ov, a.ovm, a.pm)

  pub mac_works : (word table at : ℕ) → accumulation_of (MAC word table at n) ≡ accumulated m.pm m.ovm (record { data_word = word; program_word = table }) (accumulation_of m)
  unfolding MAC APAC accumulation_of accumulated product_added
  mac_works word table at = rw (a.acc, a.p, a.ov, a.ovm, a.pm)

-- ---- a data move leaves every program word as it was
other_place : (cnf a i : ℕ) (r : Region) → Lies cnf a r → on_chip_region r ≡ true → cnf ≡ 1 → 0x200 ≤ i → i ≤ 0x2FF → i ≡ a → ⊥
other_place cnf a i Absent l h e f g s = false≢true h
other_place cnf a i B2 l h e f g s = omega arith
other_place cnf a i B0 l h e f g s = omega arith
other_place cnf a i B1 l h e f g s = omega arith
other_place cnf a i External l h e f g s = false≢true h

module _ (region : Region) (cnf a word : ℕ) (rom d : List ℕ) (allowed : move_allowed region cnf a ≡ true) where
  pub move_keeps : (x : ℕ) → program_word cnf x rom (set d (a + 1) word) ≡ program_word cnf x rom d
  unfolding on_chip program_word window_of
  move_keeps x = by (in_rom x) (in_program_b0 cnf x) refl refl
    where
      by : (t u : Bool) → in_rom x ≡ t → in_program_b0 cnf x ≡ u → program_word cnf x rom (set d (a + 1) word) ≡ program_word cnf x rom d
      by true u e f = rom_word cnf x rom (set d (a + 1) word) e ∙ sym (rom_word cnf x rom d e)
      by false true e f =
          let b = program_b0 cnf x f in
          b0_word cnf x rom (set d (a + 1) word) f
          ∙ get_or-set_other d (a + 1) (x - 0xFF00 + 0x200) word 0
          (other_place cnf (a + 1) (x - 0xFF00 + 0x200) (data_region cnf (a + 1)) (region_lies cnf (a + 1)) (moves region cnf a allowed).to b.cnf_one (omega arith) (omega arith))
          ∙ sym (b0_word cnf x rom d f)
      by false false e f = rw (e, f)
