-- A test of every byte with the texts that print it, computed bit by bit: what the higher bits keep out is out for all bytes that share them.
use Rattle.std.specs.Prelude.{◌≡◌, refl, Bool, true, false, List, [], ◌∷◌, ℕ, zero, suc, ◌+◌, ◌*◌, ◌/◌, ◌%◌, ◌^◌, ◌<◌, T}
use Rattle.std.proofs.Common.{sym, ◌∙◌, ap, subst, div-one, pow-suc, arith}
use Prim.Native.String.{String}
use Rattle.std.proofs.Math.Nat.{div-div-eq-div-mul}
use Rattle.instructions.specs.Every.{both_left, both_right}
use Rattle.instructions.specs.Encoding.{Page, pick, both, printed_at, allows, fits}
use Rattle.instructions.specs.Pages.{pages}
use Rattle.instructions.specs.Places.{upper_in, pages_of}

-- of es, those whose text allows the bit b at place k
abbrev allowing : {E : Type 0} → (E → String) → ℕ → ℕ → List E → List E
allowing text k b [] = []
allowing text k b (e ∷ es) = pick (allows (printed_at (text e) k) b) (e ∷ allowing text k b es) (allowing text k b es)

-- of es, those whose text prints the lowest k bits of u
abbrev pub fitting : {E : Type 0} → (E → String) → ℕ → ℕ → List E → List E
fitting text k u [] = []
fitting text k u (e ∷ es) = pick (fits (text e) k u) (e ∷ fitting text k u es) (fitting text k u es)

-- f passes at each number that is q above its lowest k bits, with those of es that print it
abbrev pub sieve : {E : Type 0} → (E → String) → (ℕ → List E → Bool) → ℕ → ℕ → List E → Bool
sieve text f zero q es = f q es
sieve text f (suc k) q es = both (sieve text f k (2 * q) (allowing text k 0 es)) (sieve text f k (2 * q + 1) (allowing text k 1 es))

one_bit_more : {E : Type 0} (text : E → String) (k u : ℕ) (es : List E)
    → fitting text k u (allowing text k (u / 2 ^ k % 2) es) ≡ fitting text (suc k) u es
one_bit_more text k u [] = refl
one_bit_more {E} text k u (e ∷ es) = go (allows (printed_at (text e) k) (u / 2 ^ k % 2)) (one_bit_more text k u es)
  where
    kept : (b : Bool) (xs ys : List E) → xs ≡ ys → pick b (e ∷ xs) xs ≡ pick b (e ∷ ys) ys
    kept b xs ys h = ap (λ (zs : List E). pick b (e ∷ zs) zs) h

    go : (a : Bool) → fitting text k u (allowing text k (u / 2 ^ k % 2) es) ≡ fitting text (suc k) u es
        → fitting text k u (pick a (e ∷ allowing text k (u / 2 ^ k % 2) es) (allowing text k (u / 2 ^ k % 2) es))
        ≡ pick (both a (fits (text e) k u)) (e ∷ fitting text (suc k) u es) (fitting text (suc k) u es)
    go true h = kept (fits (text e) k u) _ _ h
    go false h = h

pub sieve_at : {E : Type 0} (text : E → String) (f : ℕ → List E → Bool) (k q u : ℕ) (es : List E)
    → T (sieve text f k q es) → u / 2 ^ k ≡ q → T (f u (fitting text k u es))
sieve_at {E} text f zero q u es t h = go es t
  where
    none_out : (xs : List E) → fitting text 0 u xs ≡ xs
    none_out [] = refl
    none_out (x ∷ xs) = ap (λ (zs : List E). x ∷ zs) (none_out xs)

    go : (xs : List E) → T (f q xs) → T (f u (fitting text 0 u xs))
    go xs t = subst (λ (zs : List E). T (f u zs)) (sym (none_out xs)) (subst (λ (n : ℕ). T (f n xs)) (sym h ∙ div-one u) t)
sieve_at {E} text f (suc k) q u es t h =
    subst (λ (zs : List E). T (f u zs)) (one_bit_more text k u es)
    (go (u / 2 ^ k % 2) refl (sieve_at text f k (2 * q) u (allowing text k 0 es)) (sieve_at text f k (2 * q + 1) u (allowing text k 1 es)))
  where
    half : u / 2 ^ k / 2 ≡ q
    half = div-div-eq-div-mul u (2 ^ k) 2 ∙ (ap (λ (n : ℕ). u / n) (sym (pow-suc 2 k)) ∙ h)

    go : (b : ℕ) → u / 2 ^ k % 2 ≡ b
        → (T (sieve text f k (2 * q) (allowing text k 0 es)) → u / 2 ^ k ≡ 2 * q → T (f u (fitting text k u (allowing text k 0 es))))
        → (T (sieve text f k (2 * q + 1) (allowing text k 1 es)) → u / 2 ^ k ≡ 2 * q + 1 → T (f u (fitting text k u (allowing text k 1 es))))
        → T (f u (fitting text k u (allowing text k b es)))
    go zero e g0 g1 =
        g0 (both_left (sieve text f k (2 * q) (allowing text k 0 es)) (sieve text f k (2 * q + 1) (allowing text k 1 es)) t)
        (omega (arith, half, e))
    go (suc zero) e g0 g1 =
        g1 (both_right (sieve text f k (2 * q) (allowing text k 0 es)) (sieve text f k (2 * q + 1) (allowing text k 1 es)) t)
        (omega (arith, half, e))
    go (suc (suc b)) e g0 g1 = absurd (omega (arith, e))

-- the pages from place i on, each with its place
abbrev pub with_places : ℕ → List Page → List (ℕ × Page)
with_places i [] = []
with_places i (r ∷ rs) = (i, r) ∷ with_places (suc i) rs

abbrev pub upper_text : (ℕ × Page) → String
upper_text e = e.1.upper

-- the places of pages, each with its low byte as printed
abbrev pub lowers : List (ℕ × Page) → List (ℕ × String)
lowers [] = []
lowers (e ∷ es) = (e.0, e.1.lower) ∷ lowers es

-- f passes at every upper byte with the pages that have it
abbrev pub at_uppers : (ℕ → List (ℕ × String) → Bool) → Bool
at_uppers f = sieve upper_text (λ u es. f u (lowers es)) 8 0 (with_places 0 pages)

upper_fitting : (u i : ℕ) (rs : List Page) → lowers (fitting upper_text 8 u (with_places i rs)) ≡ upper_in u i rs
upper_fitting u i [] = refl
upper_fitting u i (r ∷ rs) = go (fits r.upper 8 u) (upper_fitting u (suc i) rs)
  where
    go : (b : Bool) → lowers (fitting upper_text 8 u (with_places (suc i) rs)) ≡ upper_in u (suc i) rs
        → lowers (pick b ((i, r) ∷ fitting upper_text 8 u (with_places (suc i) rs)) (fitting upper_text 8 u (with_places (suc i) rs)))
        ≡ pick b ((i, r.lower) ∷ upper_in u (suc i) rs) (upper_in u (suc i) rs)
    go true h = ap (λ (zs : List (ℕ × String)). (i, r.lower) ∷ zs) h
    go false h = h

pub upper_at : (f : ℕ → List (ℕ × String) → Bool) → T (at_uppers f) → (u : ℕ) → u < 256 → T (f u (pages_of u))
unfolding pages_of
upper_at f t u h =
    subst (λ (zs : List (ℕ × String)). T (f u zs)) (upper_fitting u 0 pages)
    (sieve_at upper_text (λ u es. f u (lowers es)) 8 0 u (with_places 0 pages) t (omega arith))
