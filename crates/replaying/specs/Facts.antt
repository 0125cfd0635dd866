-- What the functions of the replay ask of the slices that they are lent.
use Rattle.std.specs.Prelude.{◌≡◌, List, ℕ, length, replicate}
use Rattle.runfile.specs.Files.{read_contents}

-- slices as `replay` lends them for a file: memories of 4,096 words, an input slice of the file's count, and 1,024 zeros to write to
pub record FreshSlices (bytes rom data_memory input output : List ℕ) : Type 0 where
  pub rom_size : length rom ≡ 4096
  pub data_size : length data_memory ≡ 4096
  pub input_size : length input ≡ length (read_contents bytes).input
  pub output_zeros : output ≡ replicate 1024 0
