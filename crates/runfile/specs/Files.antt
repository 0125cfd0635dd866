-- The run file: its contents, its bytes, and what reading it gives (document 01, "The run file and its one line").
use Rattle.std.specs.Prelude.{Bool, cond, ◌&&◌, List, [], ◌∷◌, ◌++◌, ℕ, zero, suc, ◌+◌, ◌*◌, ◌/◌, ◌%◌, ltb, leb, eqb, length, get_or}
use Rattle.answers.specs.Answers.{Answer}
use Rattle.answers.specs.Answers.{Done, FileShort, FileVersion, FileRules}
use Rattle.answers.specs.Numbers.{is_done}
use Rattle.runfile.specs.declared.numbers.EightNumbers.{EightNumbers}
use Rattle.runfile.specs.declared.reading.Head.{Head}

-- "A file's contents are its three word lists and the budget."
pub record Contents : Type 0 where
  pub program : List ℕ
  pub data_words : List ℕ
  pub input : List ℕ
  pub budget : ℕ

-- "Words are little-endian."
unfoldable pub bytes_of : List ℕ → List ℕ
bytes_of [] = []
bytes_of (word ∷ words) = word % 256 ∷ word / 256 ∷ bytes_of words

-- "Eight little-endian 16-bit numbers: version 1, program count, program offset, data count, data offset, input count, input offset, budget."
-- "The program starts at 16, each section where the one before ends"
unfoldable pub head_words : Contents → List ℕ
head_words c =
    1
    ∷ length c.program
    ∷ 16
    ∷ length c.data_words
    ∷ (16 + 2 * length c.program)
    ∷ length c.input
    ∷ (16 + 2 * length c.program + 2 * length c.data_words)
    ∷ c.budget
    ∷ []

-- the file of some contents: the bytes of one word list; "the file ends with the last" section
unfoldable pub file_of : Contents → List ℕ
file_of c = bytes_of (head_words c ++ (c.program ++ (c.data_words ++ c.input)))

-- how many bytes a file with these counts has
unfoldable pub file_length : ℕ → ℕ → ℕ → ℕ
file_length program_count data_count input_count = 16 + 2 * program_count + 2 * data_count + 2 * input_count

-- "Counts are in words, at most 4,096, 3,072 and 1,024"
unfoldable pub counts_kept : ℕ → ℕ → ℕ → Bool
counts_kept program_count data_count input_count =
    leb program_count 4096 && leb data_count 3072 && leb input_count 1024

-- contents that a file can hold
unfoldable pub contents_fit : Contents → Bool
contents_fit c = counts_kept (length c.program) (length c.data_words) (length c.input)

-- the little-endian word at a place, and the run of n words from a place on
abbrev pub word_at : List ℕ → ℕ → ℕ
word_at bytes at = get_or bytes at 0 + 256 * get_or bytes (at + 1) 0

unfoldable pub words_at : List ℕ → ℕ → ℕ → List ℕ
words_at bytes at zero = []
words_at bytes at (suc n) = word_at bytes at ∷ words_at bytes (at + 2) n

-- the numbers that a file begins with
unfoldable pub numbers_of : List ℕ → EightNumbers
numbers_of bytes =
    record {
      version = word_at bytes 0;
      program_count = word_at bytes 2;
      program_offset = word_at bytes 4;
      data_count = word_at bytes 6;
      data_offset = word_at bytes 8;
      input_count = word_at bytes 10;
      input_offset = word_at bytes 12;
      budget = word_at bytes 14;
    }

-- "counts, offsets or length against the rules" is where this test fails for the numbers of a file and its length
unfoldable pub rules_kept : EightNumbers → ℕ → Bool
rules_kept n bytes_count =
    counts_kept n.program_count n.data_count n.input_count
    && eqb n.program_offset 16
    && eqb n.data_offset (n.program_offset + 2 * n.program_count)
    && eqb n.input_offset (n.data_offset + 2 * n.data_count)
    && eqb bytes_count (n.input_offset + 2 * n.input_count)

-- "Files: 20, 21, 22 in order"
unfoldable pub read_answer : List ℕ → Answer
read_answer bytes =
    cond (ltb (length bytes) 16) FileShort
    (cond (eqb (numbers_of bytes).version 1)
    (cond (rules_kept (numbers_of bytes) (length bytes)) Done
    FileRules)
    FileVersion)

-- the three sections and the budget
unfoldable pub sections_of : List ℕ → Contents
sections_of bytes =
    record {
      program = words_at bytes (numbers_of bytes).program_offset (numbers_of bytes).program_count;
      data_words = words_at bytes (numbers_of bytes).data_offset (numbers_of bytes).data_count;
      input = words_at bytes (numbers_of bytes).input_offset (numbers_of bytes).input_count;
      budget = (numbers_of bytes).budget;
    }

abbrev pub no_contents : Contents
no_contents = record { program = []; data_words = []; input = []; budget = 0 }

-- "A refused file reads as no contents"
unfoldable pub read_contents : List ℕ → Contents
read_contents bytes = cond (is_done (read_answer bytes)) (sections_of bytes) no_contents

-- the counts and the budget among the eight numbers
abbrev pub counts_of : EightNumbers → Head
counts_of n = record { program_count = n.program_count; data_count = n.data_count; input_count = n.input_count; budget = n.budget }

-- how many words each list has, and the budget
unfoldable pub head_of : Contents → Head
head_of c =
    record {
      program_count = length c.program;
      data_count = length c.data_words;
      input_count = length c.input;
      budget = c.budget;
    }
