-- A data page's part as it is lent, and the whole after it has come back: what the laws of its store speak of.
use Rattle.std.specs.Prelude.{List, ℕ, ◌+◌, ◌*◌, ◌-◌, set}
use borrow.Rule.Slice.PartMut.{mid_of, put_mid}

abbrev pub count : ℕ → ℕ
count dp = 128 * dp + 128 - 128 * dp

-- the part
abbrev pub data_page_lent : List ℕ → ℕ → List ℕ
data_page_lent d dp = mid_of (128 * dp) (count dp) d

-- with the word in it
abbrev pub data_page_written : List ℕ → ℕ → ℕ → ℕ → List ℕ
data_page_written d dp offset word = set (data_page_lent d dp) offset word

-- the whole after the part has come back
abbrev pub rejoined : List ℕ → ℕ → ℕ → ℕ → List ℕ
rejoined d dp offset word = put_mid (128 * dp) (count dp) d (data_page_written d dp offset word)
