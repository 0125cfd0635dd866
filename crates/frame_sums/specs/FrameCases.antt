-- Stacks of frames on both sides of n = 128, and what they are to leave.
use Rattle.std.specs.Prelude.{◌≡◌, List, ℕ, ◌*◌, pos, replicate, set}
use Rattle.frame_sums.specs.Frames.{Pair, stacked, exact_sum, AllLeast}

-- both words of a pass -32768
unfoldable pub least : Pair
least = record { data_word = 0x8000; program_word = 0x8000 }

-- a stack of such passes
unfoldable pub all_least : ℕ → List Pair
all_least n = replicate n least

-- 128 of them with one word more by one: the first pass's program word, or the last pass's data word
unfoldable pub first_changed : List Pair
first_changed = set (all_least 128) 0 (record { data_word = 0x8000; program_word = 0x8001 })

unfoldable pub last_changed : List Pair
last_changed = set (all_least 128) 127 (record { data_word = 0x8001; program_word = 0x8000 })

-- passes whose products, 63, are lost whole in the product shift
unfoldable pub all_lost : ℕ → List Pair
all_lost n = replicate n (record { data_word = 63; program_word = 1 })

-- document 01's bench values of the third demand ("Demand 3 with all words -32768"), and their neighbours
pub record Cases : Type 0 where
  pub at_1 : (ovm : ℕ) → stacked 3 ovm (all_least 1) ≡ record { acc = 0x0100_0000; p = 0x4000_0000; ov = 0 }
  pub at_127 : (ovm : ℕ) → stacked 3 ovm (all_least 127) ≡ record { acc = 0x7F00_0000; p = 0x4000_0000; ov = 0 }
  pub at_128_held : stacked 3 1 (all_least 128) ≡ record { acc = 0x7FFF_FFFF; p = 0x4000_0000; ov = 1 }
  pub at_128_low_bits : stacked 3 0 (all_least 128) ≡ record { acc = 0x8000_0000; p = 0x4000_0000; ov = 1 }
  pub all_least_case : AllLeast (all_least 128)
  pub first_changed_case : (ovm : ℕ) → stacked 3 ovm first_changed ≡ record { acc = 0x7FFF_FE00; p = 0x4000_0000; ov = 0 }
  pub first_not_least : AllLeast first_changed → ⊥
  pub last_changed_case : (ovm : ℕ) → stacked 3 ovm last_changed ≡ record { acc = 0x7FFF_FE00; p = 0x3FFF_8000; ov = 0 }
  pub last_not_least : AllLeast last_changed → ⊥
  -- S - 64 A reaches 63 n
  pub lost : (ovm : ℕ) → stacked 3 ovm (all_lost 128) ≡ record { acc = 0; p = 63; ov = 0 }
  pub lost_sum : exact_sum (all_lost 128) ≡ pos (63 * 128)
