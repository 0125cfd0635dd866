-- What `settled` comes to for a difference: over SumLaws.antt of specs/.
use Rattle.std.specs.Prelude.{◌≡◌, ℕ, ◌+◌, ◌-◌, ◌/◌, ◌^◌, ◌<◌}
use Rattle.alu.specs.Sums.{settled, no_borrow, subtracted}
use Rattle.sums.specs.SumLaws.{net, subtract_net, no_borrow_lem}

pub subtract_settled : (acc x ov ovm : ℕ) → acc < 2 ^ 32 → x < 2 ^ 32
    → settled (net (acc + (2 ^ 32 - x)) (acc / 2 ^ 31 + (1 - x / 2 ^ 31))) ov ovm ((acc + (2 ^ 32 - x)) / 2 ^ 32) ≡ subtracted acc x ov ovm
unfolding subtracted no_borrow
subtract_settled acc x ov ovm h k = rw (subtract_net acc x k, no_borrow_lem acc x h k)
