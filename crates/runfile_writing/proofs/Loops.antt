-- What each loop keeps: how it begins, goes on and ends.
use mathlib.Core.Path.{◌≡◌, refl, ap, ◌∙◌}
use mathlib.Core.List.{List, [], ◌∷◌}
use Prim.Native.Nat.{ℕ, ◌+◌, ◌*◌, ◌≤◌, ◌<◌}
use native.Mathlib.Omega.{arith}
use native.Mathlib.Numerals.{add-one}
use lib.ListN.{length, take, get_or}
use lib.Seq.{sets, take-suc, length-take-le}
use Rattle.runfile.specs.Files.{bytes_of}
use Rattle.runfile.specs.WordLaws.{bytes_length, bytes_append}
use Rattle.basic_laws.specs.Stores.{sets_append}

-- put_words: the bytes of the first k words are put down
pub record Put (words : List ℕ) (at : ℕ) (bytes₀ bytes : List ℕ) (k : ℕ) : Type 0 where
  pub reached : k ≤ length words
  pub so_far : bytes ≡ sets bytes₀ at (bytes_of (take k words))

pub put_none : (words : List ℕ) (at : ℕ) (bytes₀ : List ℕ) → Put words at bytes₀ bytes₀ 0
unfolding bytes_of
put_none words at bytes₀ = record { reached = omega arith; so_far = refl }

module _ {words : List ℕ} {at : ℕ} {bytes₀ bytes : List ℕ} {k : ℕ} (l : Put words at bytes₀ bytes k) where
  pub put_more : (last : List ℕ) → k < length words → last ≡ sets bytes (at + 2 * k) (bytes_of (get_or words k 0 ∷ [])) → Put words at bytes₀ last (k + 1)
  put_more last h e =
      let n : length (bytes_of (take k words)) ≡ 2 * k = bytes_length (take k words) ∙ ap (λ (m : ℕ). 2 * m) (length-take-le k words (omega arith)) in
      record { reached = omega arith; so_far = rw (add-one, take-suc words k 0, bytes_append, sets_append, n, ← l.so_far) e }
