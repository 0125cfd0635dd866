-- Where the addresses of each region lie; B0 is never in both spaces; a data move stays on chip.
use Rattle.std.specs.Prelude.{◌≡◌, Bool, cond, not, ◌&&◌, ℕ, ◌+◌, ◌≤◌, ◌<◌, ltb, eqb}
use Rattle.std.proofs.Math.Path.{refl}
use Rattle.std.proofs.Common.{sym, subst, arith, leb-true, ltb-true, ltb-false, eqb-true}
use Rattle.std.proofs.Math.Bool.{true, false}
use Rattle.std.proofs.lemmas.Bool.{false≢true, not-true, not-false}
use Rattle.basic_laws.specs.Tests.{both_hold}
use Rattle.board.specs.declared.Region.{Region}
use Rattle.board.specs.declared.Region.TheVariants.{Absent, B2, B0, B1, External}
use Rattle.board.specs.Regions.{within, data_region, present, on_chip_region, access_outside, on_chip, move_allowed, in_rom, in_program_b0, program_present}
use Rattle.board.specs.RegionFacts.{Lies, Moves, InProgramB0}

pub bounds : (first last a : ℕ) → within first last a ≡ true → (first ≤ a) × (a ≤ last)
bounds first last a h = let p = both_hold _ _ h in (leb-true _ _ p.0, leb-true _ _ p.1)

case : (P : Region → Type 0) (t : Bool) (x rest : Region) → (t ≡ true → P x) → P rest → P (cond t x rest)
case P true x rest f r = f refl
case P false x rest f r = r

pub region_lies : (cnf a : ℕ) → Lies cnf a (data_region cnf a)
unfolding data_region
region_lies cnf a =
    case (Lies cnf a) _ External _ (bounds 0x400 0xFFF a)
    (case (Lies cnf a) _ B2 _ (bounds 0x60 0x7F a)
    (case (Lies cnf a) _ B0 _ (λ h. let p = both_hold (within 0x200 0x2FF a) _ h in let b = bounds 0x200 0x2FF a p.0 in (b.0, b.1, eqb-true _ _ p.1))
    (case (Lies cnf a) _ B1 Absent (bounds 0x300 0x3FF a) tt)))

lies_below : (cnf a : ℕ) (r : Region) → Lies cnf a r → present r ≡ true → a < 4096
lies_below cnf a Absent l h = absurd (false≢true h)
lies_below cnf a B2 l h = omega arith
lies_below cnf a B0 l h = omega arith
lies_below cnf a B1 l h = omega arith
lies_below cnf a External l h = omega arith

-- every address that is there is a word of the data slice
pub present_below : (cnf a : ℕ) → present (data_region cnf a) ≡ true → a < 4096
present_below cnf a h = lies_below cnf a (data_region cnf a) (region_lies cnf a) h

lies_on_chip : (cnf a : ℕ) (r : Region) → Lies cnf a r → on_chip_region r ≡ true → a < 1024
lies_on_chip cnf a Absent l h = absurd (false≢true h)
lies_on_chip cnf a B2 l h = omega arith
lies_on_chip cnf a B0 l h = omega arith
lies_on_chip cnf a B1 l h = omega arith
lies_on_chip cnf a External l h = absurd (false≢true h)

-- what lies on chip is not outside
chip_not_outside : (r : Region) → on_chip_region r ≡ true → access_outside r ≡ 0
chip_not_outside Absent h = refl
chip_not_outside B2 h = refl
chip_not_outside B0 h = refl
chip_not_outside B1 h = refl
chip_not_outside External h = absurd (false≢true h)

pub on_chip_not_outside : (cnf a : ℕ) → on_chip cnf a ≡ true → access_outside (data_region cnf a) ≡ 0
unfolding on_chip
on_chip_not_outside cnf a h = chip_not_outside (data_region cnf a) h

-- external RAM by its addresses
pub outside_within : (cnf a : ℕ) → access_outside (data_region cnf a) ≡ cond (within 0x400 0xFFF a) 1 0
unfolding data_region
outside_within cnf a = by (within 0x400 0xFFF a) (within 0x60 0x7F a) (within 0x200 0x2FF a && eqb cnf 0) (within 0x300 0x3FF a)
  where
    by : (t b2 b0 b1 : Bool) → access_outside (cond t External (cond b2 B2 (cond b0 B0 (cond b1 B1 Absent)))) ≡ cond t 1 0
    by true b2 b0 b1 = refl
    by false true b0 b1 = refl
    by false false true b1 = refl
    by false false false true = refl
    by false false false false = refl

pub one_access : (r : Region) → access_outside r ≤ 1
one_access Absent = omega arith
one_access B2 = omega arith
one_access B0 = omega arith
one_access B1 = omega arith
one_access External = omega arith

pub on_chip_below : (cnf a : ℕ) → on_chip cnf a ≡ true → a < 1024
unfolding on_chip
on_chip_below cnf a h = lies_on_chip cnf a (data_region cnf a) (region_lies cnf a) h

-- a data move that is made goes from a region on chip to an address on chip
pub moves : (region : Region) (cnf a : ℕ) → move_allowed region cnf a ≡ true → Moves region cnf a
unfolding move_allowed
moves region cnf a h =
    let p = both_hold (on_chip_region region) _ h in
    record { from = p.0; to = p.1; below = on_chip_below cnf (a + 1) p.1 }

-- whether a move is made, where the address is asked for too: there is none from 0400h on
past_chip : (cnf a : ℕ) → 1024 ≤ a → on_chip cnf (a + 1) ≡ false
past_chip cnf a l = by (on_chip cnf (a + 1)) refl
  where
    by : (t : Bool) → on_chip cnf (a + 1) ≡ t → on_chip cnf (a + 1) ≡ false
    by true e = absurd (omega (arith, on_chip_below cnf (a + 1) e))
    by false e = e

module _ (region : Region) (cnf a : ℕ) where
  pub no_move : (chip : Bool) → chip ≡ on_chip_region region → not (chip && ltb a 1024) ≡ true → false ≡ move_allowed region cnf a
  unfolding move_allowed
  no_move true e h = rw (← e) (sym (past_chip cnf a (ltb-false _ _ (not-true _ h))))
  no_move false e h = rw (← e) refl

  pub next_asked : (chip : Bool) → chip ≡ on_chip_region region → not (chip && ltb a 1024) ≡ false → (a < 1024) × (on_chip cnf (a + 1) ≡ move_allowed region cnf a)
  unfolding move_allowed
  next_asked true e h = (ltb-true _ _ (not-false _ h), rw (← e) refl)
  next_asked false e h = absurd (false≢true (sym h))

pub rom_below : (a : ℕ) → in_rom a ≡ true → a < 4096
unfolding in_rom
rom_below a h = ltb-true _ _ h

pub program_b0 : (cnf a : ℕ) → in_program_b0 cnf a ≡ true → InProgramB0 cnf a
unfolding in_program_b0
program_b0 cnf a h =
    let p = both_hold (within 0xFF00 0xFFFF a) _ h in
    let b = bounds 0xFF00 0xFFFF a p.0 in
    record { first = b.0; last = b.1; cnf_one = eqb-true _ _ p.1 }

-- B0 is not in data space and in program space at once
pub one_space : (cnf a at : ℕ) → data_region cnf a ≡ B0 → in_program_b0 cnf at ≡ true → ⊥
one_space cnf a at h g =
    let l = subst (Lies cnf a) h (region_lies cnf a) in
    let p = program_b0 cnf at g in
    omega arith

-- the edges: the last word of B0 moves into B1 and that of B1 nowhere; the bench's direct addresses 80h and 60h; FEFFh is absent
pub edges : (move_allowed (data_region 0 0x2FF) 0 0x2FF ≡ true) × (move_allowed (data_region 1 0x2FF) 1 0x2FF ≡ false) × (move_allowed (data_region 0 0x3FF) 0 0x3FF ≡ false) × (move_allowed (data_region 0 0x7F) 0 0x7F ≡ false)
    × (data_region 0 0x80 ≡ Absent) × (data_region 0 0x60 ≡ B2) × (data_region 0 0x3FF ≡ B1) × (data_region 0 0x400 ≡ External) × (data_region 0 0xFFF ≡ External) × (data_region 0 0x1000 ≡ Absent) × (program_present 1 0xFEFF ≡ false) × (program_present 1 0xFF00 ≡ true) × (program_present 0 0x1000 ≡ false)
unfolding move_allowed on_chip data_region program_present in_rom in_program_b0
edges = (refl, refl, refl, refl, refl, refl, refl, refl, refl, refl, refl, refl, refl)
