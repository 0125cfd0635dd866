-- The file of 26 bytes that document 01 prints: a program of five words and a budget of 5.
use Rattle.std.specs.Prelude.{◌≡◌, refl, List, [], ◌∷◌, ℕ}
use Rattle.answers.specs.Answers.{Done}
use Rattle.runfile.specs.Files.{Contents, bytes_of, head_words, file_of, counts_kept, words_at, numbers_of, rules_kept, read_answer, sections_of, read_contents}

abbrev printed_bytes : List ℕ
printed_bytes =
    0x01 ∷ 0x00 ∷ 0x05 ∷ 0x00 ∷ 0x10 ∷ 0x00 ∷ 0x00 ∷ 0x00 ∷ 0x1A ∷ 0x00 ∷ 0x00 ∷ 0x00 ∷ 0x1A
    ∷ 0x00 ∷ 0x05 ∷ 0x00 ∷ 0x05 ∷ 0xCA ∷ 0x07 ∷ 0xCC ∷ 0x06 ∷ 0xC8 ∷ 0x00 ∷ 0x60 ∷ 0x00 ∷ 0xE1 ∷ []

abbrev printed_contents : Contents
printed_contents =
    record { program = 0xCA05 ∷ 0xCC07 ∷ 0xC806 ∷ 0x6000 ∷ 0xE100 ∷ []; data_words = []; input = []; budget = 5 }

pub printed_reads : (read_answer printed_bytes ≡ Done) × (read_contents printed_bytes ≡ printed_contents)
unfolding counts_kept words_at numbers_of rules_kept read_answer sections_of read_contents
printed_reads = (refl, refl)

pub held_writes : file_of printed_contents ≡ printed_bytes
unfolding bytes_of head_words file_of
held_writes = refl
