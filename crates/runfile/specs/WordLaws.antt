-- Laws of words and their bytes, and of bounds.
use Rattle.std.specs.Prelude.{◌≡◌, refl, List, [], ◌∷◌, ◌++◌, ℕ, zero, suc, ◌+◌, ◌*◌, ◌/◌, ◌%◌, ◌≤◌, ◌<◌, length, take, drop, get_or}
use Rattle.std.proofs.Common.{ap, arith, add-one, drop-cons}
use Rattle.runfile.specs.Files.{bytes_of, word_at, words_at}
use Rattle.runfile.specs.Facts.{Below}

-- ---- words out of bytes

pub words_length : (bytes : List ℕ) (at n : ℕ) → length (words_at bytes at n) ≡ n
unfolding words_at
words_length bytes at zero = refl
words_length bytes at (suc n) = ap suc (words_length bytes (at + 2) n)

pub words_add : (bytes : List ℕ) (at m n : ℕ) → words_at bytes at (m + n) ≡ words_at bytes at m ++ words_at bytes (at + 2 * m) n
unfolding words_at
words_add bytes at zero n =
    let e : 0 + n ≡ n = omega arith in
    let f : at + 2 * 0 ≡ at = omega arith in
    rw (e, f)
words_add bytes at (suc m) n =
    let e : suc m + n ≡ suc (m + n) = omega arith in
    let f : at + 2 * suc m ≡ at + 2 + 2 * m = omega arith in
    rw (e, f) (ap (λ (t : List ℕ). word_at bytes at ∷ t) (words_add bytes (at + 2) m n))

-- ---- bytes out of words

pub bytes_length : (words : List ℕ) → length (bytes_of words) ≡ 2 * length words
unfolding bytes_of
bytes_length [] = refl
bytes_length (w ∷ words) = omega (arith, bytes_length words)

pub bytes_append : (a b : List ℕ) → bytes_of (a ++ b) ≡ bytes_of a ++ bytes_of b
unfolding bytes_of
bytes_append [] b = refl
bytes_append (w ∷ a) b = ap (λ (t : List ℕ). w % 256 ∷ w / 256 ∷ t) (bytes_append a b)

-- ---- words to bytes and back

pub word_bytes : (words : List ℕ) (k : ℕ) → word_at (bytes_of words) (2 * k) ≡ get_or words k 0
unfolding bytes_of
word_bytes [] k = refl
word_bytes (w ∷ words) zero = let e : w % 256 + 256 * (w / 256) ≡ w = omega arith in e
word_bytes (w ∷ words) (suc k) =
    let e : 2 * suc k ≡ suc (suc (2 * k)) = omega arith in
    let f : suc (suc (2 * k)) + 1 ≡ suc (suc (2 * k + 1)) = omega arith in
    rw (e, f) (word_bytes words k)

pub words_bytes : (words : List ℕ) (n k : ℕ) → k + n ≤ length words → words_at (bytes_of words) (2 * k) n ≡ take n (drop k words)
unfolding words_at
words_bytes words zero k h = refl
words_bytes words (suc n) k h =
    let i : k < length words = omega arith in
    let e : 2 * k + 2 ≡ 2 * suc k = omega arith in
    let t : words_at (bytes_of words) (2 * k + 2) n ≡ take n (drop (suc k) words) = rw e (words_bytes words n (suc k) (omega arith)) in
    rw (t, word_bytes, drop-cons words k 0)

-- a run of bytes read as words gives the same bytes again
pub bytes_words : (bytes : List ℕ) → Below 256 bytes → (n at : ℕ) → at + 2 * n ≤ length bytes → bytes_of (words_at bytes at n) ≡ take (2 * n) (drop at bytes)
unfolding words_at bytes_of
bytes_words bytes below zero at h = refl
bytes_words bytes below (suc n) at h =
    let small = below.at at in
    let low : word_at bytes at % 256 ≡ get_or bytes at 0 = omega arith in
    let high : word_at bytes at / 256 ≡ get_or bytes (at + 1) 0 = omega arith in
    let twice : 2 * suc n ≡ suc (suc (2 * n)) = omega arith in
    let here : at < length bytes = omega arith in
    let next : suc at < length bytes = omega arith in
    let rest : at + 2 ≡ suc (suc at) = omega arith in
    rw (low, high, twice, drop-cons bytes at 0, drop-cons bytes (suc at) 0, bytes_words bytes below n (at + 2) (omega arith), rest, add-one)

-- ---- bounds

pub below_none : {bound : ℕ} → 0 < bound → Below bound []
below_none h = record { at = λ i. h }

pub below_cons : {bound x : ℕ} {l : List ℕ} → x < bound → Below bound l → Below bound (x ∷ l)
below_cons {bound} {x} {l} first rest = record { at = by }
  where
    by : (i : ℕ) → get_or (x ∷ l) i 0 < bound
    by zero = first
    by (suc i) = rest.at i

below_rest : {bound x : ℕ} {l : List ℕ} → Below bound (x ∷ l) → Below bound l
below_rest h = record { at = λ i. h.at (suc i) }

pub below_append : {bound : ℕ} (a b : List ℕ) → Below bound a → Below bound b → Below bound (a ++ b)
below_append [] b ha hb = hb
below_append (x ∷ a) b ha hb = below_cons (ha.at 0) (below_append a b (below_rest ha) hb)

-- bytes of 16-bit words, and 16-bit words of bytes
pub bytes_below : (words : List ℕ) → Below 65536 words → Below 256 (bytes_of words)
unfolding bytes_of
bytes_below [] h = below_none (omega arith)
bytes_below (w ∷ words) h =
    below_cons (omega arith) (below_cons (omega (arith, h.at 0)) (bytes_below words (below_rest h)))

pub word_below : (bytes : List ℕ) → Below 256 bytes → (at : ℕ) → word_at bytes at < 65536
word_below bytes below at = omega (arith, below.at at, below.at (at + 1))

pub words_below : (bytes : List ℕ) → Below 256 bytes → (n at : ℕ) → Below 65536 (words_at bytes at n)
unfolding words_at
words_below bytes below zero at = below_none (omega arith)
words_below bytes below (suc n) at = below_cons (word_below bytes below at) (words_below bytes below n (at + 2))
