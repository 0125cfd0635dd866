-- Laws of digits and of how many a number has.
use Rattle.std.specs.Prelude.{◌≡◌, refl, Bool, true, false, cond, List, [], ◌∷◌, ◌++◌, ℕ, zero, suc, ◌+◌, ◌/◌, ◌%◌, ◌≤◌, ◌<◌, ltb, length}
use Rattle.std.proofs.Common.{ap, ◌∙◌, arith, length-append, ltb-false, lt-ltb, le-ltb}
use Rattle.line_digits.specs.Digits.{digit_of, hexadecimal, decimal_within, decimal}

pub small_digit : (d : ℕ) → d < 16 → digit_of (d % 16) ≡ digit_of d
small_digit d h = let e : d % 16 ≡ d = omega arith in rw e

pub hexadecimal_length : (k n : ℕ) → length (hexadecimal k n) ≡ k
unfolding hexadecimal
hexadecimal_length zero n = refl
hexadecimal_length (suc k) n = simp (length-append, hexadecimal_length k (n / 16)) (omega arith)

-- eight digits are the four of the upper half and the last four
pub eight_digits : (n : ℕ) → hexadecimal 8 n ≡ hexadecimal 4 (n / 65536) ++ hexadecimal 4 n
unfolding hexadecimal
eight_digits n = let e : n / 65536 ≡ n / 16 / 16 / 16 / 16 = omega arith in rw e

-- any bound on the digits that is large enough gives the same digits
bound_free : (f g n : ℕ) → n ≤ f → n ≤ g → decimal_within f n ≡ decimal_within g n
unfolding decimal_within
bound_free zero zero n hf hg = refl
bound_free zero (suc g) n hf hg = let e : n < 10 = omega arith in simp (lt-ltb n 10 e)
bound_free (suc f) zero n hf hg = let e : n < 10 = omega arith in simp (lt-ltb n 10 e)
bound_free (suc f) (suc g) n hf hg = by (ltb n 10) refl (λ h. bound_free f g (n / 10) (omega arith) (omega arith))
  where
    by : (t : Bool) → ltb n 10 ≡ t → (10 ≤ n → decimal_within f (n / 10) ≡ decimal_within g (n / 10))
        → cond (ltb n 10) (digit_of n ∷ []) (decimal_within f (n / 10) ++ (digit_of (n % 10) ∷ []))
        ≡ cond (ltb n 10) (digit_of n ∷ []) (decimal_within g (n / 10) ++ (digit_of (n % 10) ∷ []))
    by true e rest = simp e
    by false e rest = rw (rest (ltb-false n 10 e))

pub decimal_one : (n : ℕ) → n < 10 → decimal n ≡ digit_of n ∷ []
unfolding decimal decimal_within
decimal_one zero h = refl
decimal_one (suc n) h = simp (lt-ltb (suc n) 10 h)

pub decimal_more : (n : ℕ) → 10 ≤ n → decimal n ≡ decimal (n / 10) ++ (digit_of (n % 10) ∷ [])
unfolding decimal decimal_within
decimal_more zero h = absurd (omega arith)
decimal_more (suc n) h =
    simp (le-ltb (suc n) 10 h)
    (ap (λ (l : List ℕ). l ++ (digit_of (suc n % 10) ∷ [])) (bound_free n (suc n / 10) (suc n / 10) (omega arith) (omega arith)))

within_length : (f n : ℕ) → length (decimal_within f n) ≤ f + 1
unfolding decimal_within
within_length zero n = omega arith
within_length (suc f) n = by (ltb n 10) (within_length f (n / 10))
  where
    by : (t : Bool) → length (decimal_within f (n / 10)) ≤ f + 1 → length (cond t (digit_of n ∷ []) (decimal_within f (n / 10) ++ (digit_of (n % 10) ∷ []))) ≤ suc f + 1
    by true rest = omega arith
    by false rest = omega (arith, length-append (decimal_within f (n / 10)) (digit_of (n % 10) ∷ []))

pub decimal_most : (n : ℕ) → length (decimal n) ≤ n + 1
unfolding decimal
decimal_most n = within_length n n

-- digits that are counted, and digits that are left
pub record DigitsCounted (n rest places : ℕ) : Type 0 where
  pub sum : places + length (decimal rest) ≡ 1 + length (decimal n)
  pub falls : rest + places ≤ n + 1

pub counted_none : (n : ℕ) → DigitsCounted n n 1
counted_none n = record { sum = refl; falls = omega arith }

module _ {n rest places : ℕ} (k : DigitsCounted n rest places) where
  pub counted_more : 10 ≤ rest → DigitsCounted n (rest / 10) (places + 1)
  counted_more h =
      let e : length (decimal rest) ≡ length (decimal (rest / 10)) + 1 =
      ap length (decimal_more rest h) ∙ length-append (decimal (rest / 10)) (digit_of (rest % 10) ∷ []) in
      record { sum = omega (arith, k.sum); falls = omega (arith, k.falls) }

  pub counted_all : rest < 10 → places ≡ length (decimal n)
  counted_all h =
      let e : length (decimal rest) ≡ 1 = ap length (decimal_one rest h) in
      omega (arith, k.sum)
