-- Not routine: a run of words stored inside 4,096 zeros is zeros before it, the words, and zeros after it, as the definition has it.
use Rattle.std.proofs.Common.{arith, ap, ◌∙◌, replicate, ℕ}
use Rattle.runfile_setting_up.specs.MemoryLaws.{memory_put}
use Rattle.runfile_setting_up.proofs.fill_memory.Goals as goal

pub returns : goal.returns
returns c = memory_put _ _ _ _ _ _ _ _ c.requires.1 (c.clear.ensures ∙ ap (λ (n : ℕ). replicate n 0) c.requires.2) c.from-from.ensures (omega (arith, c.from.ensures)) c.load_words.ensures
