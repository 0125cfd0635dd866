-- The pages of the T register, the P register and the multiplier. Each definition is named as its page, and gives the machine after it, or the word that it
-- stores. The machine is that after the operand's modification, w the data word that was read.
use Rattle.std.specs.Prelude.{cond, ℕ, eqb}
use Rattle.alu.specs.Sums.{added, subtracted}
use Rattle.alu.specs.Products.{product_word, long_constant, shifted_product, product_high, product_low}
use Rattle.alu.specs.Registers.{wrapped_sum}
use Rattle.machine.specs.declared.Machine.{Machine}
use Rattle.machine.specs.Cells.{with_acc, with_p, with_t, with_pm, with_pfc}
use Rattle.pages.specs.Passes.{with_sum}

-- "(shifted P register) -> ACC"
unfoldable pub PAC : Machine → Machine
PAC m = with_acc m (shifted_product m.p m.pm)

-- "(ACC) + (shifted P register) -> ACC"
unfoldable pub APAC : Machine → Machine
APAC m = with_sum m (added m.acc (shifted_product m.p m.pm) m.ov m.ovm)

-- "(ACC) - (shifted P register) -> ACC"
unfoldable pub SPAC : Machine → Machine
SPAC m = with_sum m (subtracted m.acc (shifted_product m.p m.pm) m.ov m.ovm)

-- "(dma) -> T register", and what the page does with the product that was in P
unfoldable pub LT : ℕ → Machine → Machine
LT w m = with_t m w

unfoldable pub LTA : ℕ → Machine → Machine
LTA w m = with_t (APAC m) w

unfoldable pub LTP : ℕ → Machine → Machine
LTP w m = with_t (PAC m) w

-- LTD's data move is in the rule
unfoldable pub LTD : ℕ → Machine → Machine
LTD w m = with_t (APAC m) w

unfoldable pub LTS : ℕ → Machine → Machine
LTS w m = with_t (SPAC m) w

-- "(T register) x (dma) -> P register"
unfoldable pub MPY : ℕ → Machine → Machine
MPY w m = with_p m (product_word m.t w)

-- with the sum or the difference of the product before
unfoldable pub MPYA : ℕ → Machine → Machine
MPYA w m = with_p (APAC m) (product_word m.t w)

unfoldable pub MPYS : ℕ → Machine → Machine
MPYS w m = with_p (SPAC m) (product_word m.t w)

-- "(T register) x constant -> P register", the constant signed, of 13 bits
unfoldable pub MPYK : ℕ → Machine → Machine
MPYK k m = with_p m (product_word m.t (long_constant k))

-- "(ACC) + (shifted P register) -> ACC, (dma) -> T register, (dma) x (dma) -> P register"
unfoldable pub SQRA : ℕ → Machine → Machine
SQRA w m = with_p (with_t (APAC m) w) (product_word w w)

unfoldable pub SQRS : ℕ → Machine → Machine
SQRS w m = with_p (with_t (SPAC m) w) (product_word w w)

-- "The first pass (MID = 0) takes its program address from the second word; later passes take PFC."
unfoldable pub table_address : Machine → ℕ → ℕ
table_address m second = cond (eqb m.mid 0) second m.pfc

-- "add shifted P to ACC; T takes the data word; P takes the signed product with the program word. After each pass PFC is the address used plus 1"
unfoldable pub MAC : ℕ → ℕ → ℕ → Machine → Machine
MAC w table at m = with_pfc (with_p (with_t (APAC m) w) (product_word w table)) (wrapped_sum at 1)

-- "MACD also does the data move", which is in the rule
unfoldable pub MACD : ℕ → ℕ → ℕ → Machine → Machine
MACD w table at m = MAC w table at m

-- the words that SPL and SPH store
unfoldable pub SPL : Machine → ℕ
SPL m = product_low m.p m.pm

unfoldable pub SPH : Machine → ℕ
SPH m = product_high m.p m.pm

-- "Constant -> product register shift mode (PM) status bits"
unfoldable pub SPM : ℕ → Machine → Machine
SPM k m = with_pm m k
