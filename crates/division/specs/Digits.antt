-- Sixteen conditional subtractions of plain numbers divide: the quotient's digits come one by one, the highest first.
use Rattle.std.specs.Prelude.{◌≡◌, refl, Bool, true, false, cond, ℕ, suc, ◌+◌, ◌-◌, ◌*◌, ◌/◌, ◌%◌, ◌^◌, ◌≤◌, ◌<◌, leb}
use Rattle.std.proofs.Common.{ap, arith, pow-suc, leb-true, leb-false}
use Rattle.std.proofs.Math.Nat.{div-eq_of_lt-le, div-add-mod}

-- what SUBC makes of ACC where nothing overflows
unfoldable pub subtracted_once : ℕ → ℕ → ℕ
subtracted_once d a = cond (leb (d * 2 ^ 15) a) ((a - d * 2 ^ 15) * 2 + 1) (a * 2)

-- after i passes ACC is a: the first i digits of the quotient are q, and the rest of the dividend is still to be divided
pub record Digits (n d i a : ℕ) : Type 0 where
  pub q : ℕ
  pub i_digits : q < 2 ^ i
  pub below : a < d * 2 ^ 16
  pub exact : a + q * d * 2 ^ 16 ≡ n * 2 ^ i + q

pub no_digit : (n d : ℕ) → 1 ≤ d → n ≤ 65535 → Digits n d 0 n
no_digit n d h k = record { q = 0; i_digits = omega arith; below = omega arith; exact = omega arith }

pub next_digit : (n d i a : ℕ) → Digits n d i a → Digits n d (suc i) (subtracted_once d a)
unfolding subtracted_once
next_digit n d i a g = by (leb (d * 2 ^ 15) a) refl
  where
    by : (t : Bool) → leb (d * 2 ^ 15) a ≡ t → Digits n d (suc i) (cond t ((a - d * 2 ^ 15) * 2 + 1) (a * 2))
    by true e =
        let h = leb-true (d * 2 ^ 15) a e in
        record {
          q = g.q * 2 + 1;
          i_digits = omega (arith, g.i_digits);
          below = omega (arith, g.below);
          exact = omega (arith, g.exact, ap (λ (p : ℕ). n * p) (pow-suc 2 i));
        }
    by false e =
        let h = leb-false (d * 2 ^ 15) a e in
        record {
          q = g.q * 2;
          i_digits = omega (arith, g.i_digits);
          below = omega (arith, g.below);
          exact = omega (arith, g.exact, ap (λ (p : ℕ). n * p) (pow-suc 2 i));
        }

-- with sixteen digits the quotient is in the low half and the remainder in the high half
pub all_digits : (n d a : ℕ) → 1 ≤ d → Digits n d 16 a → (a % 2 ^ 16 ≡ n / d) × (a / 2 ^ 16 ≡ n % d)
all_digits n d a h g =
    let most : g.q * d ≤ n = omega (arith, g.exact, g.i_digits) in
    let more : n < (g.q + 1) * d = omega (arith, g.exact, g.below) in
    let quotient : n / d ≡ g.q = div-eq_of_lt-le d most more in
    let remainder : n % d ≡ n - g.q * d = omega (arith, div-add-mod n d, ap (λ (k : ℕ). d * k) quotient) in
    (omega (arith, g.exact, g.i_digits), omega (arith, g.exact, g.i_digits))
