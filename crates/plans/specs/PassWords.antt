-- The words of a pass in two parts, as the code reads them: those of the memories for every instruction, and the port's for IN alone.
use Rattle.std.specs.Prelude.{List, ℕ, get_or}
use Rattle.pages.specs.declared.Words.{Words}
use Rattle.plans.specs.declared.MemoryWords.{MemoryWords}

unfoldable pub memory_words : Words → MemoryWords
memory_words words = record { operand = words.operand; second = words.second; table = words.table; at = words.at }

unfoldable pub with_port : MemoryWords → List ℕ → ℕ → Words
with_port words input cursor = record {
  operand = words.operand;
  second = words.second;
  table = words.table;
  at = words.at;
  next = get_or input cursor 0;
}
