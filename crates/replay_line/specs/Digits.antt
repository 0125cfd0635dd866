-- How many digits a number has.
use Rattle.std.specs.Prelude.{◌≡◌, refl, Bool, true, false, [], ◌∷◌, ℕ, ◌+◌, ◌*◌, ◌/◌, ◌%◌, ◌≤◌, ◌<◌, ltb, length}
use Rattle.std.proofs.Common.{ap, ◌∙◌, arith, length-append, ltb-true, ltb-false}
use Rattle.line_digits.specs.Digits.{digit_of, decimal}
use Rattle.line_digits.specs.DigitLaws.{decimal_one, decimal_more}

pub one_digit : (n : ℕ) → n < 10 → length (decimal n) ≤ 1
one_digit n h = omega (arith, ap length (decimal_one n h))

-- one digit more than a tenth of the number has
one_more : (bound digits n : ℕ) → ((tenth : ℕ) → tenth < bound → length (decimal tenth) ≤ digits) → n < 10 * bound → length (decimal n) ≤ digits + 1
one_more bound digits n few h = by (ltb n 10) refl
  where
    by : (t : Bool) → ltb n 10 ≡ t → length (decimal n) ≤ digits + 1
    by true e = omega (arith, one_digit n (ltb-true n 10 e))
    by false e =
        let l : length (decimal n) ≡ length (decimal (n / 10)) + 1 =
        ap length (decimal_more n (ltb-false n 10 e)) ∙ length-append (decimal (n / 10)) (digit_of (n % 10) ∷ []) in
        omega (arith, l, few (n / 10) (omega arith))

pub two_digits : (n : ℕ) → n < 100 → length (decimal n) ≤ 2
two_digits n h = one_more 10 1 n one_digit h

three_digits : (n : ℕ) → n < 1000 → length (decimal n) ≤ 3
three_digits n h = one_more 100 2 n two_digits h

four_digits : (n : ℕ) → n < 10000 → length (decimal n) ≤ 4
four_digits n h = one_more 1000 3 n three_digits h

pub five_digits : (n : ℕ) → n < 100000 → length (decimal n) ≤ 5
five_digits n h = one_more 10000 4 n four_digits h
