-- A word of a page is what the page prints, with the fields that the page reads from the word.
use Rattle.std.specs.Prelude.{◌≡◌, Bool, true, false, not, List, [], ◌∷◌, ℕ, zero, suc, ◌+◌, ◌-◌, ◌/◌, ◌%◌, ◌^◌, ◌<◌, T, eqb, ltb, leb}
use Rattle.std.proofs.Common.{sym, subst, ◌∙◌, ap, arith, eqb→eq, leb→le, ltb→lt, shr-shr, lt-ltb, le-ltb}
use Prim.Native.String.{String}
use lib.Text.{eqt, eqt→eq}
use Rattle.instructions.specs.Every.{both_left, both_right, all, all_at, by_order}
use Rattle.instructions.specs.Encoding.{Page, pick, both, printed_at, allows, fits, width_of, lowest_of, under}
use Rattle.instructions.specs.Pages.{pages}
use Rattle.encodings.specs.Encode.{bit_of, bits_after, text, letter_number, printed, word_of}
use Rattle.encodings.specs.Bits.{bits_after_lem, bit_of_low, bit_of_field}

abbrev pub before : Bool → String → List String → List String
before true c cs = c ∷ cs
before false c cs = cs

-- the letters that a text prints among its lowest k bits
unfoldable pub letters : String → ℕ → List String
letters t zero = []
letters t (suc k) =
    before
    (both (not (eqt (printed_at t k) "0")) (both (not (eqt (printed_at t k) "1")) (eqb (width_of t (printed_at t k) k) 0)))
    (printed_at t k) (letters t k)

-- the letters with the numbers that a word has for them
abbrev pub numbered : (String → ℕ) → List String → List (String × ℕ)
numbered f [] = []
numbered f (c ∷ cs) = (c, f c) ∷ numbered f cs

abbrev pub is_in : String → List String → Bool
is_in c [] = false
is_in c (d ∷ ds) = pick (eqt c d) true (is_in c ds)

pub number_in : (f : String → ℕ) (cs : List String) (c : String) → T (is_in c cs) → letter_number (numbered f cs) c ≡ f c
number_in f [] c t = absurd t
number_in f (d ∷ ds) c t = go (eqt c d) (eqt→eq c d) t (number_in f ds c)
  where
    go : (b : Bool) → (T b → c ≡ d) → T (pick b true (is_in c ds)) → (T (is_in c ds) → letter_number (numbered f ds) c ≡ f c)
        → pick b (f d) (letter_number (numbered f ds) c) ≡ f c
    go true e t k = ap f (sym (e tt))
    go false e t k = k t

-- Test: bit j is printed in the word as in its byte, and under a letter it lies among that letter's bits.
pub framed_at : Page → ℕ → Bool
framed_at r j =
    both (eqt (printed_at (text r) j) (pick (ltb j 8) (printed_at r.lower j) (printed_at r.upper (j - 8))))
    (pick (eqt (printed_at (text r) j) "0") true
    (pick (eqt (printed_at (text r) j) "1") true
    (both (is_in (printed_at (text r) j) (letters (text r) 16))
    (both (leb (lowest_of (text r) (printed_at (text r) j) 16 0) j)
    (ltb j (lowest_of (text r) (printed_at (text r) j) 16 0 + width_of (text r) (printed_at (text r) j) 16))))))

-- Test: every bit is so, and the page's name is its own.
pub framed : Page → Bool
framed r = both (all (framed_at r) 4 0) (eqt (printed pages r.name) (text r))

-- what the page of a page's name prints
pub own_text : (r : Page) → T (framed r) → printed pages r.name ≡ text r
unfolding framed
own_text r f = eqt→eq (printed pages r.name) (text r) (both_right (all (framed_at r) 4 0) (eqt (printed pages r.name) (text r)) f)

unfoldable pub every_row : (Page → Bool) → List Page → Bool
every_row f [] = true
every_row f (r ∷ rs) = both (f r) (every_row f rs)

pub all_framed : T (every_row framed pages)
unfolding every_row framed framed_at letters
all_framed = tt

pub fits_at : (t : String) (k j b : ℕ) → j < k → T (fits t k b) → T (allows (printed_at t j) (b / 2 ^ j % 2))
fits_at t zero j b h f = absurd (omega arith)
fits_at t (suc k) j b h f =
    by_order j k (λ l. fits_at t k j b l (both_right (allows (printed_at t k) (b / 2 ^ k % 2)) (fits t k b) f))
    (λ l. let e : k ≡ j = omega arith in
    subst (λ (i : ℕ). T (allows (printed_at t i) (b / 2 ^ i % 2))) e (both_left (allows (printed_at t k) (b / 2 ^ k % 2)) (fits t k b) f))

-- a bit that is as printed, or the letter's
pub bit_is : (p q l : Bool) (b x : ℕ) → T (pick p (eqb b 0) (pick q (eqb b 1) true)) → T (pick p true (pick q true l)) → (T l → x ≡ b)
    → pick p 0 (pick q 1 x) ≡ b
bit_is true q l b x a f k = sym (eqb→eq b 0 a)
bit_is false true l b x a f k = sym (eqb→eq b 1 a)
bit_is false false l b x a f k = k f

pub printed_bit : (r : Page) (w j : ℕ) → T (fits r.upper 8 (w / 256)) → T (fits r.lower 8 (w % 256)) → j < 16
    → T (allows (pick (ltb j 8) (printed_at r.lower j) (printed_at r.upper (j - 8))) (w / 2 ^ j % 2))
printed_bit r w j u l h =
    by_order j 8
    (λ o. rw (lt-ltb j 8 o) (rw (bit_of_low w 8 j o) at (fits_at r.lower 8 j (w % 256) o l)))
    (λ o. let e : 8 + (j - 8) ≡ j = omega arith in
    rw (le-ltb j 8 o) (rw (shr-shr w 8 (j - 8), e) at (fits_at r.upper 8 (j - 8) (w / 256) (omega arith) u)))

-- a page and its fields, as a word of it has them
abbrev pub read : Page → ℕ → String × List (String × ℕ)
read r w = (r.name, numbered (under (text r) 16 w) (letters (text r) 16))

-- a page's word is what the page prints, with the fields that it reads from the word
pub word_back : (r : Page) (w : ℕ) → T (framed r) → w < 65536 → T (fits r.upper 8 (w / 256)) → T (fits r.lower 8 (w % 256))
    → word_of (read r w) ≡ w
unfolding framed framed_at word_of
word_back r w f h u l =
    let z : 0 ≡ w / 2 ^ 16 = omega arith in
    let t : String = text r in
    let v : String → ℕ = letter_number (numbered (under t 16 w) (letters t 16)) in
    ap (λ (s : String). bits_after s v 0 16) (own_text r f)
    ∙ ap (λ (n : ℕ). bits_after t v n 16) z
    ∙ bits_after_lem t v w 16
    (λ j o. bit j o (all_at (framed_at r) 4 0 j (both_left (all (framed_at r) 4 0) (eqt (printed pages r.name) t) f) (omega arith) (omega arith)))
  where
    bit : (j : ℕ) → j < 16 → T (framed_at r j) → bit_of (text r) (letter_number (numbered (under (text r) 16 w) (letters (text r) 16))) j ≡ w / 2 ^ j % 2
    bit j o t =
        let c : String = printed_at (text r) j in
        let lo : ℕ = lowest_of (text r) c 16 0 in
        let wd : ℕ = width_of (text r) c 16 in
        let d : String = pick (ltb j 8) (printed_at r.lower j) (printed_at r.upper (j - 8)) in
        let m : Bool = both (leb lo j) (ltb j (lo + wd)) in
        let i : Bool = is_in c (letters (text r) 16) in
        let e : c ≡ d = eqt→eq c d (both_left (eqt c d) (pick (eqt c "0") true (pick (eqt c "1") true (both i m))) t) in
        bit_is (eqt c "0") (eqt c "1") (both i m) (w / 2 ^ j % 2)
        (letter_number (numbered (under (text r) 16 w) (letters (text r) 16)) c / 2 ^ (j - lo) % 2)
        (subst (λ (s : String). T (allows s (w / 2 ^ j % 2))) (sym e) (printed_bit r w j u l o))
        (both_right (eqt c d) (pick (eqt c "0") true (pick (eqt c "1") true (both i m))) t)
        (λ n. ap (λ (x : ℕ). x / 2 ^ (j - lo) % 2) (number_in (under (text r) 16 w) (letters (text r) 16) c (both_left i m n))
        ∙ bit_of_field w lo wd j (leb→le lo j (both_left (leb lo j) (ltb j (lo + wd)) (both_right i m n)))
        (ltb→lt j (lo + wd) (both_right (leb lo j) (ltb j (lo + wd)) (both_right i m n))))
