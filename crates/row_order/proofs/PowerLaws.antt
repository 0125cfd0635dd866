-- The cycle, where AR0 is a power of two: the register after so many additions.
use Rattle.std.specs.Prelude.{◌≡◌, ℕ, suc, ◌+◌, ◌*◌, ◌-◌, ◌%◌, ◌^◌, ◌≤◌}
use Rattle.std.proofs.Common.{◌∙◌, ap, ap₂, subst, arith}
use Rattle.std.proofs.Math.Nat.{mul-mod_left}
use Rattle.std.proofs.lemmas.Nat.{shl-shr, mod-pow-add}
use Rattle.alu.specs.Registers.{reversed}
use Rattle.alu.specs.ReversedLaws.{reversed_shifted, reversed_power}
use Rattle.row_order.specs.RowOrder.{row_after}
use Rattle.row_order.specs.RowLaws.{row_is}

-- j additions of 2 to the k: the k + 1 low bits of j, reversed
pub row_of_power : (k j : ℕ) → k ≤ 15 → row_after j (2 ^ k) ≡ reversed (suc k) (j % 2 ^ suc k)
row_of_power k j h =
    let i : ℕ = 15 - k in
    let width : suc i + k ≡ 16 = omega arith in
    let other_width : suc k + i ≡ 16 = omega arith in
    let index : reversed 16 (2 ^ k) ≡ 2 ^ i = subst (λ (w : ℕ). reversed w (2 ^ k) ≡ 2 ^ i) width (reversed_power i k) in
    let total : j * 2 ^ i % 2 ^ (suc k + i) ≡ j % 2 ^ suc k * 2 ^ i =
    mod-pow-add (j * 2 ^ i) (suc k) i ∙ ap₂ (λ (x y : ℕ). x % 2 ^ suc k * 2 ^ i + y) (shl-shr j i) (mul-mod_left j (2 ^ i)) ∙ omega arith in
    row_is j (2 ^ k) ∙ ap (λ (n : ℕ). reversed 16 (j * n % 2 ^ 16)) index
    ∙ subst (λ (w : ℕ). reversed w (j * 2 ^ i % 2 ^ w) ≡ reversed (suc k) (j % 2 ^ suc k)) other_width
    (ap (reversed (suc k + i)) total ∙ reversed_shifted (suc k) i (j % 2 ^ suc k))
