-- "The routine that finds a data word shall answer with its region" (document 02, request 7).
use Rattle.std.specs.Prelude.{List, ℕ, get_or}
use Rattle.board.specs.declared.Found.{Found}
use Rattle.board.specs.Regions.{data_region}

-- the word at a data address, 0 past the slice, and the region of the address
unfoldable pub found_at : ℕ → List ℕ → ℕ → Found
found_at cnf «data» address = record { word = get_or «data» address 0; region = data_region cnf address }
