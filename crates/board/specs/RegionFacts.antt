-- What is known where a test holds: the facts behind the tests, by name.
use Rattle.std.specs.Prelude.{◌≡◌, true, ℕ, ◌+◌, ◌≤◌, ◌<◌}
use Rattle.board.specs.declared.Region.{Region}
use Rattle.board.specs.declared.Region.TheVariants.{Absent, B2, B0, B1, External}
use Rattle.board.specs.Regions.{on_chip_region, on_chip}

-- what its region says of a data address
abbrev pub Lies : ℕ → ℕ → Region → Type 0
Lies cnf a Absent = Unit
Lies cnf a B2 = (0x60 ≤ a) × (a ≤ 0x7F)
Lies cnf a B0 = (0x200 ≤ a) × (a ≤ 0x2FF) × (cnf ≡ 0)
Lies cnf a B1 = (0x300 ≤ a) × (a ≤ 0x3FF)
Lies cnf a External = (0x400 ≤ a) × (a ≤ 0xFFF)

-- a data move is made, of a word that was found in this region
pub record Moves (region : Region) (cnf a : ℕ) : Type 0 where
  pub from : on_chip_region region ≡ true
  pub to : on_chip cnf (a + 1) ≡ true
  pub below : a + 1 < 1024

-- B0 answers at a program address
pub record InProgramB0 (cnf a : ℕ) : Type 0 where
  pub first : 0xFF00 ≤ a
  pub last : a ≤ 0xFFFF
  pub cnf_one : cnf ≡ 1
