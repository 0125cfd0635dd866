-- What is known where a test holds: the facts behind the tests, by name.
use Rattle.std.specs.Prelude.{◌≡◌, true, List, ℕ, ◌+◌, ◌*◌, ◌≤◌, ◌<◌, length, get_or}
use Rattle.runfile.specs.declared.numbers.EightNumbers.{EightNumbers}
use Rattle.runfile.specs.Files.{Contents, file_of, contents_fit, numbers_of}

-- each number of a list is below a bound: bytes below 256, words below 65,536
pub record Below (bound : ℕ) (l : List ℕ) : Type 0 where
  pub at : (i : ℕ) → get_or l i 0 < bound

pub record CountsKept (program_count data_count input_count : ℕ) : Type 0 where
  pub program_most : program_count ≤ 4096
  pub data_most : data_count ≤ 3072
  pub input_most : input_count ≤ 1024

-- the rules for a file's numbers and its length
pub record RulesKept (n : EightNumbers) (bytes_count : ℕ) : Type 0 where
  pub counts : CountsKept n.program_count n.data_count n.input_count
  pub program_starts : n.program_offset ≡ 16
  pub data_starts : n.data_offset ≡ n.program_offset + 2 * n.program_count
  pub input_starts : n.input_offset ≡ n.data_offset + 2 * n.data_count
  pub file_ends : bytes_count ≡ n.input_offset + 2 * n.input_count

-- a file that the reader accepts
pub record Accepted (bytes : List ℕ) : Type 0 where
  pub head_there : 16 ≤ length bytes
  pub version_one : (numbers_of bytes).version ≡ 1
  pub rules : RulesKept (numbers_of bytes) (length bytes)

-- every word, and the budget, is a 16-bit number
pub record SixteenBits (c : Contents) : Type 0 where
  pub program : Below 65536 c.program
  pub data_words : Below 65536 c.data_words
  pub input : Below 65536 c.input
  pub budget : c.budget < 65536

-- the bytes are the file of some contents
pub record FileOfSome (bytes : List ℕ) : Type 0 where
  pub contents : Contents
  pub within : contents_fit contents ≡ true
  pub sixteen_bits : SixteenBits contents
  pub same_bytes : file_of contents ≡ bytes
