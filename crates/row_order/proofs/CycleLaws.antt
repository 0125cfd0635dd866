-- The cycle: proofs.
use Rattle.std.specs.Prelude.{◌≡◌, ℕ, suc, ◌%◌, ◌^◌, ◌<◌}
use Rattle.std.proofs.Common.{sym, ◌∙◌, ap, subst, mod-eq_of_lt}
use Rattle.std.proofs.Math.Nat.{mod_self}
use Rattle.alu.specs.Registers.{reversed}
use Rattle.alu.specs.RegisterLaws.{reversed_lt}
use Rattle.alu.specs.ReversedLaws.{reversed_zero, reversed_twice}
use Rattle.row_order.specs.RowOrder.{row_after, Cycles}
use Rattle.row_order.proofs.PowerLaws.{row_of_power}

pub cycles : Cycles
cycles k h = record {
  visits = λ value l. record {
    additions = reversed (suc k) value;
    few = reversed_lt (suc k) value;
    comes = order (reversed (suc k) value) (reversed_lt (suc k) value) ∙ reversed_twice (suc k) value l;
    once = λ j f e. sym (reversed_twice (suc k) j f) ∙ ap (reversed (suc k)) (sym (order j f) ∙ e);
  };
  returns = row_of_power k (2 ^ suc k) h ∙ ap (reversed (suc k)) (mod_self (2 ^ suc k)) ∙ reversed_zero (suc k);
  below = λ j. subst (λ (r : ℕ). r < 2 ^ suc k) (sym (row_of_power k j h)) (reversed_lt (suc k) (j % 2 ^ suc k));
  order = order;
}
  where
    order : (j : ℕ) → j < 2 ^ suc k → row_after j (2 ^ k) ≡ reversed (suc k) j
    order j f = row_of_power k j h ∙ ap (reversed (suc k)) (mod-eq_of_lt f)
