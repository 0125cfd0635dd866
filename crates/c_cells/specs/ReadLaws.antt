-- Eight cells of 16 bits, read one by one.
use Rattle.std.specs.Prelude.{◌≡◌, List, [], ◌∷◌, ℕ, suc, ◌+◌, ◌%◌, ◌^◌, get_or}
use Rattle.std.proofs.Common.{arith}
use Rattle.c_cells.specs.Cells.{fields_at}

pub eight_read : (numbers : List ℕ) (from : ℕ)
    → get_or numbers from 0 % 2 ^ 16
    ∷ get_or numbers (from + 1) 0 % 2 ^ 16
    ∷ get_or numbers (from + 2) 0 % 2 ^ 16
    ∷ get_or numbers (from + 3) 0 % 2 ^ 16
    ∷ get_or numbers (from + 4) 0 % 2 ^ 16
    ∷ get_or numbers (from + 5) 0 % 2 ^ 16
    ∷ get_or numbers (from + 6) 0 % 2 ^ 16
    ∷ get_or numbers (from + 7) 0 % 2 ^ 16
    ∷ []
    ≡ fields_at 16 numbers from 8
eight_read numbers from =
    let one : from + 1 ≡ suc from = omega arith in
    let two : from + 2 ≡ suc (suc from) = omega arith in
    let three : from + 3 ≡ suc (suc (suc from)) = omega arith in
    let four : from + 4 ≡ suc (suc (suc (suc from))) = omega arith in
    let five : from + 5 ≡ suc (suc (suc (suc (suc from)))) = omega arith in
    let six : from + 6 ≡ suc (suc (suc (suc (suc (suc from))))) = omega arith in
    let seven : from + 7 ≡ suc (suc (suc (suc (suc (suc (suc from)))))) = omega arith in
    rw (one, two, three, four, five, six, seven)
