-- An accepted file is run from a world in range.
use Rattle.std.specs.Prelude.{List, [], ◌∷◌, ◌++◌, ℕ, zero, suc, ◌+◌, ◌-◌, length, replicate}
use Rattle.std.proofs.Common.{arith}
use Rattle.std.proofs.lemmas.List.{length-replicate}
use Rattle.runfile.specs.Files.{Contents}
use Rattle.runfile.specs.Facts.{Below, CountsKept, SixteenBits}
use Rattle.runfile_setting_up.specs.SetUp.{memory_with, loaded}
use Rattle.runfile_setting_up.specs.MemoryLaws.{memory_length}
use Rattle.ranges.specs.Ranges.{WordsFit, WorldInRange}
use Rattle.ranges.proofs.Runs.{start_in_range}
use Rattle.replay_line.specs.Replay.{given_of, start_of}

words_fit : (words : List ℕ) → Below 65536 words → WordsFit words
words_fit [] b = tt
words_fit (x ∷ words) b = (b.at 0, words_fit words (record { at = λ i. b.at (suc i) }))

zeros_fit : (n : ℕ) → WordsFit (replicate n 0)
zeros_fit zero = tt
zeros_fit (suc n) = (omega arith, zeros_fit n)

both_fit : (xs ys : List ℕ) → WordsFit xs → WordsFit ys → WordsFit (xs ++ ys)
both_fit [] ys p q = q
both_fit (x ∷ xs) ys p q = (p.0, both_fit xs ys p.1 q)

memory_fits : (address : ℕ) (words : List ℕ) → Below 65536 words → WordsFit (memory_with address words)
unfolding memory_with
memory_fits address words b =
    both_fit (replicate address 0) _ (zeros_fit address) (both_fit words _ (words_fit words b) (zeros_fit (4096 - (address + length words))))

pub replay_starts : (c : Contents) → CountsKept (length c.program) (length c.data_words) (length c.input) → SixteenBits c
    → WorldInRange (given_of c) (start_of c)
unfolding loaded given_of start_of
replay_starts c counts bits =
    start_in_range _ _ _ (memory_length 0 c.program (omega (arith, counts.program_most)))
    (memory_length 0x400 c.data_words (omega (arith, counts.data_most)))
    counts.input_most
    (omega (arith, length-replicate {A = ℕ} 1024 0))
    (memory_fits 0 c.program bits.program)
    (memory_fits 0x400 c.data_words bits.data_words)
    (words_fit c.input bits.input)
    (zeros_fit 1024)
