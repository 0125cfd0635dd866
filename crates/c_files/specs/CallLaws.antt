-- How the calls of a function make what its contract says.
use Rattle.std.specs.Prelude.{◌≡◌, List, ℕ, length}
use Rattle.std.proofs.Common.{ap}
use Rattle.runfile.specs.declared.reading.Head.{Head}
use Rattle.runfile.specs.Files.{read_contents, head_of}

pub head_counts : (bytes : List ℕ) (head : Head) → head ≡ head_of (read_contents bytes)
    → (head.input_count ≡ length (read_contents bytes).input) × (head.budget ≡ (read_contents bytes).budget)
unfolding head_of
head_counts bytes head e = (ap (λ (x : Head). x.input_count) e, ap (λ (x : Head). x.budget) e)
