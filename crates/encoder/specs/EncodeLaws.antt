-- What the encoder's proofs cite of the words: a page's bits field by field.
use Rattle.std.specs.Prelude.{◌≡◌, ℕ, ◌+◌, ◌*◌, ◌%◌, ◌^◌}
use Rattle.std.proofs.Common.{sym, ◌∙◌, ap}
use Rattle.operands.specs.declared.Address.{Address}
use Rattle.encodings.specs.Encode.{is_indirect, address_bits}
use Rattle.encodings.specs.Bits.{field_after, field_after_lem}

-- the bits n, a field of j bits, and one of k
pub two_fields : (v j u k n : ℕ) → field_after u (field_after v n j) k ≡ (n * 2 ^ j + v % 2 ^ j) * 2 ^ k + u % 2 ^ k
two_fields v j u k n = field_after_lem u (field_after v n j) k ∙ ap (λ (m : ℕ). m * 2 ^ k + u % 2 ^ k) (field_after_lem v n j)

-- the bits n, and fields of i, of j and of k bits
pub three_fields : (x i v j u k n : ℕ)
    → field_after u (field_after v (field_after x n i) j) k ≡ ((n * 2 ^ i + x % 2 ^ i) * 2 ^ j + v % 2 ^ j) * 2 ^ k + u % 2 ^ k
three_fields x i v j u k n =
    two_fields v j u k (field_after x n i) ∙ ap (λ (m : ℕ). (m * 2 ^ j + v % 2 ^ j) * 2 ^ k + u % 2 ^ k) (field_after_lem x n i)

-- a result by the case that a value is in
pub by_case : {A : Type 0} (f : A → ℕ) {x y : A} {r : ℕ} → x ≡ y → r ≡ f y → r ≡ f x
by_case f e p = p ∙ ap f (sym e)

-- An upper byte and an operand; before them four bits and a field of four, or five and a field of three.
pub of_address : (u : ℕ) (a : Address) {r : ℕ} → r ≡ (u * 2 + is_indirect a % 2) * 128 + address_bits a % 128
    → r ≡ field_after (address_bits a) (field_after (is_indirect a) u 1) 7
of_address u a e = e ∙ sym (two_fields (is_indirect a) 1 (address_bits a) 7 u)

pub of_shifted : (u s : ℕ) (a : Address) {r : ℕ} → r ≡ ((u * 16 + s % 16) * 2 + is_indirect a % 2) * 128 + address_bits a % 128
    → r ≡ field_after (address_bits a) (field_after (is_indirect a) (field_after s u 4) 1) 7
of_shifted u s a e = e ∙ sym (three_fields s 4 (is_indirect a) 1 (address_bits a) 7 u)

pub of_selected : (u s : ℕ) (a : Address) {r : ℕ} → r ≡ ((u * 8 + s % 8) * 2 + is_indirect a % 2) * 128 + address_bits a % 128
    → r ≡ field_after (address_bits a) (field_after (is_indirect a) (field_after s u 3) 1) 7
of_selected u s a e = e ∙ sym (three_fields s 3 (is_indirect a) 1 (address_bits a) 7 u)
