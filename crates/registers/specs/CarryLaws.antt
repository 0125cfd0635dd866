-- What the loop of `reversed_sum` keeps.
use Rattle.std.specs.Prelude.{◌≡◌, ℕ, zero, suc, ◌/◌, ◌^◌, ◌<◌, ◌≤◌, bit_and, bit_xor, refl}
use Rattle.std.proofs.Common.{sym, ◌∙◌, arith}
use Rattle.std.proofs.lemmas.Nat.{and_le_l, xor_lt}
use Rattle.alu.specs.Registers.{reversed_sum}
use Rattle.alu.specs.ReversedLaws.{zero_added, carried_sum}

-- the sum so far and what is still to be added make the whole sum
pub record Adding (a b sum rest : ℕ) : Type 0 where
  pub sum_fits : sum < 2 ^ 16
  pub rest_fits : rest < 2 ^ 16
  pub whole : reversed_sum sum rest ≡ reversed_sum a b

pub adding_begins : (a b : ℕ) → a < 2 ^ 16 → b < 2 ^ 16 → Adding a b a b
adding_begins a b h k = record { sum_fits = h; rest_fits = k; whole = refl }

pub adding_goes_on : (a b sum rest : ℕ) → Adding a b sum rest → Adding a b (bit_xor sum rest) (bit_and sum rest / 2)
adding_goes_on a b sum rest s = record {
  sum_fits = xor_lt 16 sum rest s.sum_fits s.rest_fits;
  rest_fits = omega (arith, and_le_l sum rest, s.sum_fits);
  whole = carried_sum sum rest s.sum_fits ∙ s.whole;
}

pub adding_ends : (a b sum rest : ℕ) → rest ≤ 0 → Adding a b sum rest → sum ≡ reversed_sum a b
adding_ends a b sum zero h s = sym (zero_added sum s.sum_fits) ∙ s.whole
adding_ends a b sum (suc rest) h s = absurd (omega arith)
