-- The row order of the transform (document 02, request 8): what operands with reversed carry do to a machine, and the values that a register
-- takes. The laws of the sum itself, of registers alone, are in crates/alu/specs/ReversedLaws.antt.
use Rattle.std.specs.Prelude.{◌≡◌, true, ℕ, zero, suc, ◌^◌, ◌≤◌, ◌<◌, None}
use Rattle.alu.specs.Registers.{reversed}
use Rattle.machine.specs.declared.Machine.{Machine}
use Rattle.machine.specs.Cells.{register, with_register}
use Rattle.machine.specs.Range.{in_range}
use Rattle.operands.specs.declared.Modification.TheVariants.{PlusReversed, MinusReversed}
use Rattle.pages.specs.Addressing.{moved, modified}

-- ---- adding and then subtracting

-- the machine after the operand *BR0+, and after *BR0-, with no next ARP
abbrev pub index_added : Machine → Machine
index_added m = modified (record { modification = PlusReversed; next = None }) m

abbrev pub index_subtracted : Machine → Machine
index_subtracted m = modified (record { modification = MinusReversed; next = None }) m

-- "Adding and then subtracting the same AR0 restores any register but AR0 itself": with ARP from 1 to 7 the whole machine is as it was
abbrev pub Restores : Type 0
Restores = (m : Machine) → in_range m ≡ true → 1 ≤ m.arp → index_subtracted (index_added m) ≡ m

-- "but AR0 itself": with ARP 0, AR0 is 0 afterwards whatever it was, and nothing else is changed
abbrev pub ClearsItself : Type 0
ClearsItself = (m : Machine) → m.arp ≡ 0 → index_subtracted (index_added m) ≡ with_register m 0 0

-- so that it is not restored where it was not 0
abbrev pub NotRestored : Type 0
NotRestored = (m : Machine) → m.arp ≡ 0 → 1 ≤ register m 0 → index_subtracted (index_added m) ≡ m → ⊥

-- "zero leaves it unchanged": where AR0 is 0
abbrev pub ZeroIndexAdded : Type 0
ZeroIndexAdded = (m : Machine) → in_range m ≡ true → register m 0 ≡ 0 → index_added m ≡ m

-- ---- the cycle

-- the register after so many additions of AR0, starting from zero
unfoldable pub row_after : ℕ → ℕ → ℕ
row_after zero index = 0
row_after (suc j) index = moved PlusReversed (row_after j index) index

-- exactly one number of additions below `limit` comes to this value
pub record VisitedOnce (value limit index : ℕ) : Type 0 where
  pub additions : ℕ
  pub few : additions < limit
  pub comes : row_after additions index ≡ value
  pub once : (j : ℕ) → j < limit → row_after j index ≡ value → j ≡ additions

-- "with AR0 a power of two 2 to the k, starting from zero, 2 to the (k + 1) additions visit each register value below that number once and return to
-- zero": zero is visited before the first addition, and the last one returns to it (ruling O1)
pub record Cycle (k : ℕ) : Type 0 where
  pub visits : (value : ℕ) → value < 2 ^ suc k → VisitedOnce value (2 ^ suc k) (2 ^ k)
  pub returns : row_after (2 ^ suc k) (2 ^ k) ≡ 0
  -- no other value is visited, however many additions there are
  pub below : (j : ℕ) → row_after j (2 ^ k) < 2 ^ suc k
  -- the order: after j additions the k + 1 bits of j stand reversed
  pub order : (j : ℕ) → j < 2 ^ suc k → row_after j (2 ^ k) ≡ reversed (suc k) j

-- "for k from 0 to 15"
abbrev pub Cycles : Type 0
Cycles = (k : ℕ) → k ≤ 15 → Cycle k

-- ---- the same of a machine

-- the machine after so many operands *BR0+
unfoldable pub index_added_times : ℕ → Machine → Machine
index_added_times zero m = m
index_added_times (suc j) m = index_added (index_added_times j m)

-- the register that ARP points at, 1 to 7, takes these values from zero on, and nothing else is changed on the way
abbrev pub OneRegister : Type 0
OneRegister = (j : ℕ) (m : Machine) → in_range m ≡ true → 1 ≤ m.arp → register m m.arp ≡ 0
    → index_added_times j m ≡ with_register m m.arp (row_after j (register m 0))
