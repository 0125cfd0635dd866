-- A stack of frames: what n repeated multiply-accumulates (MAC or MACD) and one final product add (APAC) leave in ACC, P and OV, over the words that the passes read.
use Rattle.std.specs.Prelude.{◌≡◌, List, [], ◌∷◌, ℕ, ◌*◌, ◌^◌, ◌<◌, ℤ, pos, neg_ℤ, ◌+ℤ◌, ◌-ℤ◌, ◌*ℤ◌, ◌≤ℤ◌}
use Rattle.alu.specs.Word.{signed}
use Rattle.alu.specs.Sums.{added}
use Rattle.alu.specs.Products.{product, product_word, shifted_product}

-- the two words that one pass reads, from data memory and from program memory
pub record Pair : Type 0 where
  pub data_word : ℕ
  pub program_word : ℕ

-- the cells that the passes change and the sum is in
pub record Accumulation : Type 0 where
  pub acc : ℕ
  pub p : ℕ
  pub ov : ℕ

-- "From ACC, P and OV zero"
unfoldable pub from_zero : Accumulation
from_zero = record { acc = 0; p = 0; ov = 0 }

-- A product add, with the product shift and the overflow mode that PM and OVM stand for. APAC: "(ACC) + (shifted P register) -> ACC"
unfoldable pub product_added : ℕ → ℕ → Accumulation → Accumulation
product_added pm ovm s = record {
  acc = (added s.acc (shifted_product s.p pm) s.ov ovm).acc;
  p = s.p;
  ov = (added s.acc (shifted_product s.p pm) s.ov ovm).ov;
}

-- A pass. Document 01: "add shifted P to ACC; T takes the data word; P takes the signed product with the program word", so the product added is the one before
unfoldable pub accumulated : ℕ → ℕ → Pair → Accumulation → Accumulation
accumulated pm ovm w s = record {
  acc = (product_added pm ovm s).acc;
  p = product_word w.data_word w.program_word;
  ov = (product_added pm ovm s).ov;
}

-- the passes, one after another
unfoldable pub passed : ℕ → ℕ → List Pair → Accumulation → Accumulation
passed pm ovm [] s = s
passed pm ovm (w ∷ ws) s = passed pm ovm ws (accumulated pm ovm w s)

-- the passes and the final product add
unfoldable pub stacked : ℕ → ℕ → List Pair → Accumulation
stacked pm ovm ws = product_added pm ovm (passed pm ovm ws from_zero)

-- S, "the exact sum of the signed products"
unfoldable pub exact_sum : List Pair → ℤ
exact_sum [] = pos 0
exact_sum (w ∷ ws) = product w.data_word w.program_word +ℤ exact_sum ws

-- "0 <= S - 64 A <= 63 n"
pub record Near (n : ℕ) (S A : ℤ) : Type 0 where
  pub from : pos 0 ≤ℤ (S -ℤ pos 64 *ℤ A)
  pub to : (S -ℤ pos 64 *ℤ A) ≤ℤ pos (63 * n)

-- what the n passes over these words leave: "OV stays 0 and 0 <= S - 64 A <= 63 n", with A "the accumulator read as signed"
abbrev pub Bounded : ℕ → List Pair → Accumulation → Type 0
Bounded n ws s = (s.ov ≡ 0) × Near n (exact_sum ws) (signed 32 s.acc)

-- what holds of the words of every pass
unfoldable pub Every : (Pair → Type 0) → List Pair → Type 0
Every holds [] = Unit {0}
Every holds (w ∷ ws) = holds w × Every holds ws

-- every word read has 16 bits
unfoldable pub Words : List Pair → Type 0
Words = Every (λ w. (w.data_word < 2 ^ 16) × (w.program_word < 2 ^ 16))

-- -32768, the least number of 16 bits
unfoldable pub Least : ℕ → Type 0
Least word = signed 16 word ≡ neg_ℤ (pos 32768)

unfoldable pub BothLeast : Pair → Type 0
BothLeast w = Least w.data_word × Least w.program_word

-- "all .. words read are -32768"
unfoldable pub AllLeast : List Pair → Type 0
AllLeast = Every BothLeast
