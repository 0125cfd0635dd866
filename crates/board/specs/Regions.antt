-- Which data and program addresses are there, by region and CNF (document 01, "The camera board").
use Rattle.std.specs.Prelude.{Bool, true, false, cond, ◌&&◌, ◌||◌, ℕ, ◌+◌, leb, ltb, eqb}
use Rattle.board.specs.declared.Region.{Region}
use Rattle.board.specs.declared.Region.TheVariants.{Absent, B2, B0, B1, External}

abbrev pub within : ℕ → ℕ → ℕ → Bool
within first last address = leb first address && leb address last

-- "on the board are block B2 (0060h to 007Fh), B0 (0200h to 02FFh), B1 (0300h to 03FFh) and external RAM (0400h to 0FFFh). All other data addresses .. are absent"
-- B0 is in data space where CNF is 0. Check 1 leaves only 0 and 1; with any other number B0 is in neither space.
unfoldable pub data_region : ℕ → ℕ → Region
data_region cnf address =
    cond (within 0x400 0xFFF address) External
    (cond (within 0x60 0x7F address) B2
    (cond (within 0x200 0x2FF address && eqb cnf 0) B0
    (cond (within 0x300 0x3FF address) B1
    Absent)))

abbrev pub present : Region → Bool
present Absent = false
present B2 = true
present B0 = true
present B1 = true
present External = true

abbrev pub on_chip_region : Region → Bool
on_chip_region Absent = false
on_chip_region B2 = true
on_chip_region B0 = true
on_chip_region B1 = true
on_chip_region External = false

unfoldable pub on_chip : ℕ → ℕ → Bool
on_chip cnf address = on_chip_region (data_region cnf address)

-- "the word is copied to the next address only where both addresses lie in on-chip blocks now in data space": of a word that was found in this region. FFFFh
-- has no next address, and is not on chip.
unfoldable pub move_allowed : Region → ℕ → ℕ → Bool
move_allowed region cnf address = on_chip_region region && on_chip cnf (address + 1)

-- how often one access to a region goes to external RAM
abbrev pub access_outside : Region → ℕ
access_outside Absent = 0
access_outside B2 = 0
access_outside B0 = 0
access_outside B1 = 0
access_outside External = 1

-- "4,096 words of ROM at 0000h to 0FFFh"
unfoldable pub in_rom : ℕ → Bool
in_rom address = ltb address 4096

-- "With CNF = 1, B0 leaves data space and answers at program addresses FF00h to FFFFh"
unfoldable pub in_program_b0 : ℕ → ℕ → Bool
in_program_b0 cnf address = within 0xFF00 0xFFFF address && eqb cnf 1

unfoldable pub program_present : ℕ → ℕ → Bool
program_present cnf address = in_rom address || in_program_b0 cnf address
