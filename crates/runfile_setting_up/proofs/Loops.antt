-- What the loop of load_words keeps: how it begins, goes on and ends.
use Rattle.std.specs.Prelude.{◌≡◌, refl, List, ℕ, ◌+◌, ◌*◌, ◌≤◌, ◌<◌, length, set}
use Rattle.std.proofs.Common.{◌∙◌, arith}
use Rattle.std.proofs.lemmas.List.Edits.{sets}
use Rattle.basic_laws.specs.Stores.{sets_append, sets_whole}
use Rattle.runfile.specs.Files.{word_at, words_at}
use Rattle.runfile.specs.WordLaws.{words_length, words_add}

-- the first k words of the run are stored
pub record Loaded (bytes : List ℕ) (at : ℕ) (words₀ words : List ℕ) (k : ℕ) : Type 0 where
  pub reached : k ≤ length words₀
  pub so_far : words ≡ sets words₀ 0 (words_at bytes at k)

pub loaded_none : (bytes : List ℕ) (at : ℕ) (words₀ : List ℕ) → Loaded bytes at words₀ words₀ 0
unfolding words_at
loaded_none bytes at words₀ = record { reached = omega arith; so_far = refl }

module _ {bytes : List ℕ} {at : ℕ} {words₀ words : List ℕ} {k : ℕ} (l : Loaded bytes at words₀ words k) where
  pub loaded_more : (word : ℕ) → k < length words₀ → word ≡ word_at bytes (at + 2 * k) → Loaded bytes at words₀ (set words k word) (k + 1)
  unfolding words_at
  loaded_more word h e =
      let from : 0 + k ≡ k = omega arith in
      record { reached = omega arith; so_far = rw (words_add, sets_append, words_length, from, l.so_far, e) }

  pub loaded_all : length words₀ ≤ k → words ≡ words_at bytes at (length words₀)
  loaded_all h =
      let e : k ≡ length words₀ = omega arith in
      (rw e at l.so_far) ∙ sets_whole _ _ (words_length bytes at (length words₀))
