-- The 256-entry table of `decode`, one entry for each upper byte, and the one computed test that it agrees with the encodings.
use Rattle.std.specs.Prelude.{◌≡◌, List, [], ◌∷◌, ℕ, ◌<◌, get_or}
use Rattle.kinds.specs.Kinds.{kind_of, right_table, table_right}

-- sixteen upper bytes a row
unfoldable pub kind_table : List ℕ
kind_table =
    0 ∷ 0 ∷ 0 ∷ 0 ∷ 0 ∷ 0 ∷ 0 ∷ 0 ∷ 0 ∷ 0 ∷ 0 ∷ 0 ∷ 0 ∷ 0 ∷ 0 ∷ 0 ∷
    1 ∷ 1 ∷ 1 ∷ 1 ∷ 1 ∷ 1 ∷ 1 ∷ 1 ∷ 1 ∷ 1 ∷ 1 ∷ 1 ∷ 1 ∷ 1 ∷ 1 ∷ 1 ∷
    2 ∷ 2 ∷ 2 ∷ 2 ∷ 2 ∷ 2 ∷ 2 ∷ 2 ∷ 2 ∷ 2 ∷ 2 ∷ 2 ∷ 2 ∷ 2 ∷ 2 ∷ 2 ∷
    42 ∷ 42 ∷ 42 ∷ 42 ∷ 42 ∷ 42 ∷ 42 ∷ 42 ∷ 28 ∷ 31 ∷ 29 ∷ 30 ∷ 23 ∷ 24 ∷ 25 ∷ 26 ∷
    8 ∷ 9 ∷ 77 ∷ 75 ∷ 5 ∷ 6 ∷ 79 ∷ 7 ∷ 3 ∷ 4 ∷ 76 ∷ 65 ∷ 12 ∷ 11 ∷ 10 ∷ 78 ∷
    89 ∷ 90 ∷ 45 ∷ 81 ∷ 92 ∷ 44 ∷ 62 ∷ 88 ∷ 85 ∷ 86 ∷ 32 ∷ 27 ∷ 34 ∷ 33 ∷ 97 ∷ 99 ∷
    13 ∷ 13 ∷ 13 ∷ 13 ∷ 13 ∷ 13 ∷ 13 ∷ 13 ∷ 14 ∷ 14 ∷ 14 ∷ 14 ∷ 14 ∷ 14 ∷ 14 ∷ 14 ∷
    43 ∷ 43 ∷ 43 ∷ 43 ∷ 43 ∷ 43 ∷ 43 ∷ 43 ∷ 93 ∷ 94 ∷ 91 ∷ 80 ∷ 35 ∷ 36 ∷ 47 ∷ 48 ∷
    63 ∷ 63 ∷ 63 ∷ 63 ∷ 63 ∷ 63 ∷ 63 ∷ 63 ∷ 63 ∷ 63 ∷ 63 ∷ 63 ∷ 63 ∷ 63 ∷ 63 ∷ 63 ∷
    87 ∷ 87 ∷ 87 ∷ 87 ∷ 87 ∷ 87 ∷ 87 ∷ 87 ∷ 87 ∷ 87 ∷ 87 ∷ 87 ∷ 87 ∷ 87 ∷ 87 ∷ 87 ∷
    37 ∷ 37 ∷ 37 ∷ 37 ∷ 37 ∷ 37 ∷ 37 ∷ 37 ∷ 37 ∷ 37 ∷ 37 ∷ 37 ∷ 37 ∷ 37 ∷ 37 ∷ 37 ∷
    37 ∷ 37 ∷ 37 ∷ 37 ∷ 37 ∷ 37 ∷ 37 ∷ 37 ∷ 37 ∷ 37 ∷ 37 ∷ 37 ∷ 37 ∷ 37 ∷ 37 ∷ 37 ∷
    46 ∷ 46 ∷ 46 ∷ 46 ∷ 46 ∷ 46 ∷ 46 ∷ 46 ∷ 49 ∷ 49 ∷ 15 ∷ 66 ∷ 16 ∷ 17 ∷ 200 ∷ 82 ∷
    201 ∷ 201 ∷ 201 ∷ 201 ∷ 201 ∷ 201 ∷ 201 ∷ 201 ∷ 202 ∷ 202 ∷ 202 ∷ 202 ∷ 202 ∷ 202 ∷ 202 ∷ 202 ∷
    64 ∷ 64 ∷ 64 ∷ 64 ∷ 64 ∷ 64 ∷ 64 ∷ 64 ∷ 64 ∷ 64 ∷ 64 ∷ 64 ∷ 64 ∷ 64 ∷ 64 ∷ 64 ∷
    58 ∷ 54 ∷ 57 ∷ 56 ∷ 55 ∷ 53 ∷ 52 ∷ 59 ∷ 96 ∷ 95 ∷ 98 ∷ 51 ∷ 84 ∷ 83 ∷ 60 ∷ 50 ∷
    []

pub kinds_right : (upper : ℕ) → upper < 256 → get_or kind_table upper 0 ≡ kind_of upper
unfolding kind_table right_table
kinds_right upper h = table_right kind_table upper h tt
