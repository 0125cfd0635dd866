-- Bits of numbers: a number's bits make it, and a field's bits are the number's.
use Rattle.std.specs.Prelude.{◌≡◌, ℕ, zero, suc, ◌+◌, ◌-◌, ◌*◌, ◌/◌, ◌%◌, ◌^◌, ◌<◌, ◌≤◌}
use Rattle.std.proofs.Common.{sym, ◌∙◌, ap, arith, pow-suc, mul_comm, mul_assoc, add-mul, div-one, shr-shr}
use Prim.Native.String.{String}
use Rattle.std.proofs.Math.Nat.{pow-zero, div-div-eq-div-mul}
use Rattle.std.proofs.lemmas.Nat.{mod-pow-add}
use Rattle.encodings.specs.Encode.{bit_of, bits_after}

half : (w k : ℕ) → w / 2 ^ suc k ≡ w / 2 ^ k / 2
half w k = ap (λ (n : ℕ). w / n) (pow-suc 2 k) ∙ sym (div-div-eq-div-mul w (2 ^ k) 2)

half_first : (w k : ℕ) → w / 2 ^ suc k ≡ w / 2 / 2 ^ k
half_first w k = ap (λ (n : ℕ). w / n) (pow-suc 2 k ∙ mul_comm (2 ^ k) 2) ∙ sym (div-div-eq-div-mul w 2 (2 ^ k))

-- bits that are those of w make w
pub bits_after_lem : (t : String) (f : String → ℕ) (w k : ℕ) → ((j : ℕ) → j < k → bit_of t f j ≡ w / 2 ^ j % 2)
    → bits_after t f (w / 2 ^ k) k ≡ w
bits_after_lem t f w zero h = div-one w
bits_after_lem t f w (suc k) h =
    let e : w / 2 ^ suc k * 2 + bit_of t f k ≡ w / 2 ^ k = omega (arith, half w k, h k (omega arith)) in
    ap (λ (n : ℕ). bits_after t f n k) e ∙ bits_after_lem t f w k (λ j l. h j (omega arith))

mod_step : (x b : ℕ) → x % 2 ^ suc b ≡ x / 2 % 2 ^ b * 2 + x % 2
mod_step x b = let e : suc b ≡ b + 1 = omega arith in ap (λ (j : ℕ). x % 2 ^ j) e ∙ mod-pow-add x b 1

-- bit c of the lowest b bits of x is bit c of x
pub bit_of_low : (x b c : ℕ) → c < b → x % 2 ^ b / 2 ^ c % 2 ≡ x / 2 ^ c % 2
bit_of_low x zero c h = omega arith
bit_of_low x (suc b) zero h = omega (arith, mod_step x b, div-one x, div-one (x % 2 ^ suc b))
bit_of_low x (suc b) (suc c) h =
    let e : x % 2 ^ suc b / 2 ≡ x / 2 % 2 ^ b = omega (arith, mod_step x b) in
    rw (half_first (x % 2 ^ suc b) c, half_first x c, e) (bit_of_low (x / 2) b c (omega arith))

-- bit j of w, from the field of b bits at a
pub bit_of_field : (w a b j : ℕ) → a ≤ j → j < a + b → w / 2 ^ a % 2 ^ b / 2 ^ (j - a) % 2 ≡ w / 2 ^ j % 2
bit_of_field w a b j lo hi =
    let e : a + (j - a) ≡ j = omega arith in
    bit_of_low (w / 2 ^ a) b (j - a) (omega arith)
    ∙ ap (λ (n : ℕ). n % 2) (shr-shr w a (j - a) ∙ ap (λ (n : ℕ). w / 2 ^ n) e)

-- the lowest k bits of v, after those that make the number n
abbrev pub field_after : ℕ → ℕ → ℕ → ℕ
field_after v n zero = n
field_after v n (suc k) = field_after v (n * 2 + v / 2 ^ k % 2) k

pub field_after_lem : (v n k : ℕ) → field_after v n k ≡ n * 2 ^ k + v % 2 ^ k
field_after_lem v n zero = omega (arith, pow-zero 2)
field_after_lem v n (suc k) =
    let e : 1 + k ≡ suc k = omega arith in
    let s : v % 2 ^ suc k ≡ v / 2 ^ k % 2 * 2 ^ k + v % 2 ^ k = ap (λ (j : ℕ). v % 2 ^ j) (sym e) ∙ mod-pow-add v 1 k in
    let p : n * 2 ^ suc k ≡ n * 2 * 2 ^ k
    = ap (λ (m : ℕ). n * m) (pow-suc 2 k ∙ mul_comm (2 ^ k) 2) ∙ sym (mul_assoc n 2 (2 ^ k)) in
    field_after_lem v (n * 2 + v / 2 ^ k % 2) k ∙ omega (arith, s, p, add-mul (n * 2) (v / 2 ^ k % 2) (2 ^ k))
