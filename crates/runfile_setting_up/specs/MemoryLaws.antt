-- Laws of memories that hold 0 but for a run of words.
use Rattle.std.specs.Prelude.{◌≡◌, List, ◌++◌, ℕ, ◌+◌, ◌-◌, ◌≤◌, length, take, drop, replicate}
use Rattle.std.proofs.Common.{sym, ap, ◌∙◌, append_assoc, arith, length-append, length-drop, length-take-le, take_at, drop_at}
use Rattle.std.proofs.lemmas.List.{drop-drop, length-replicate, replicate-append-replicate}
use Rattle.std.proofs.lemmas.List.Edits.{sets, sets-eq}
use Rattle.runfile.specs.Files.{words_at}
use Rattle.runfile.specs.WordLaws.{words_length}
use Rattle.runfile_setting_up.specs.SetUp.{memory_with}

cut : (a n : ℕ) → a ≤ n → replicate {A = ℕ} n 0 ≡ replicate a 0 ++ replicate (n - a) 0
cut a n h =
    let e : n ≡ a + (n - a) = omega arith in
    ap (λ (k : ℕ). replicate {A = ℕ} k 0) e ∙ sym (replicate-append-replicate {A = ℕ} a (n - a) 0)

take_zeros : (a n : ℕ) → a ≤ n → take {A = ℕ} a (replicate n 0) ≡ replicate a 0
take_zeros a n h = rw (cut a n h) (take_at (replicate {A = ℕ} a 0) (replicate (n - a) 0) a (length-replicate {A = ℕ} a 0))

drop_zeros : (a n : ℕ) → a ≤ n → drop {A = ℕ} a (replicate n 0) ≡ replicate (n - a) 0
drop_zeros a n h = rw (cut a n h) (drop_at (replicate {A = ℕ} a 0) (replicate (n - a) 0) a (length-replicate {A = ℕ} a 0))

module _ (address n : ℕ) (words : List ℕ) where
  sets_zeros : address + length words ≤ n
      → sets (replicate n 0) address words ≡ replicate address 0 ++ (words ++ replicate (n - (address + length words)) 0)
  sets_zeros h =
      sets-eq words (replicate n 0) address (rw length-replicate h)
      ∙ rw (take_zeros address n (omega arith), drop_zeros (address + length words) n h, append_assoc)

-- words of a file stored into a memory of 4,096 words that was cleared
pub memory_filled : (bytes cleared after : List ℕ) (at count address : ℕ) → address + count ≤ 4096 → cleared ≡ replicate 4096 0
    → after ≡ sets cleared address (words_at bytes at count) → after ≡ memory_with address (words_at bytes at count)
unfolding memory_with
memory_filled bytes cleared after at count address fits e f =
    let words = words_at bytes at count in
    let inside : address + length words ≤ 4096 = rw (words_length bytes at count) fits in
    rw (f, e) (sets_zeros address 4096 words inside)

-- the same, where the words are put down in a part of the memory
module _ (bytes cleared part : List ℕ) (at count address from k : ℕ) where
  pub memory_put : address + count ≤ 4096 → cleared ≡ replicate 4096 0 → from ≡ address → k ≡ count
      → part ≡ words_at bytes at (length (take k (drop from cleared)))
      → take from cleared ++ (part ++ drop k (drop from cleared)) ≡ memory_with address (words_at bytes at count)
  memory_put fits e begins size put =
      let room : length cleared ≡ 4096 = rw e (length-replicate {A = ℕ} 4096 0) in
      let rest : length (drop from cleared) ≡ 4096 - address = rw begins (length-drop address cleared ∙ ap (λ (n : ℕ). n - address) room) in
      let many : length (take k (drop from cleared)) ≡ count = rw size (length-take-le count (drop from cleared) (omega arith)) in
      let stored : part ≡ words_at bytes at count = rw many at put in
      let inside : address + length (words_at bytes at count) ≤ length cleared = rw (words_length bytes at count, room) fits in
      memory_filled bytes cleared _ at count address fits e
      (rw (stored, size, begins, sets-eq (words_at bytes at count) cleared address inside, words_length bytes at count, drop-drop count address cleared, append_assoc))

-- a memory keeps its 4,096 words
pub memory_length : (address : ℕ) (words : List ℕ) → address + length words ≤ 4096 → length (memory_with address words) ≡ 4096
unfolding memory_with
memory_length address words h = simp (length-append, length-replicate) (omega arith)
