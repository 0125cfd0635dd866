-- Of the words that two pages have: proofs.
use Rattle.std.specs.Prelude.{◌≡◌, refl, Bool, true, false, ◌&&◌, ℕ, zero, suc, ◌+◌, ◌/◌, ◌%◌, ◌<◌, ◌≤◌, T, leb, eqb, Some}
use Rattle.std.proofs.Common.{sym, subst, arith, leb→le, le→leb, eqb→eq}
use Rattle.std.proofs.Math.Dec.{eqb_refl}
use Rattle.instructions.specs.Every.{both_left, both_right, all, all_at}
use Prim.Native.String.{String}
use Rattle.instructions.specs.Encoding.{pick, both, fits, low_fits, address_mode_of, indirect_of, modification_of, next_of, auxiliary}
use Rattle.instructions.specs.Pages.{pages}
use Rattle.instructions.specs.Decode.{decode_of}
use Rattle.instructions.specs.declared.Auxiliary.TheVariants.{Mar}
use Rattle.operands.specs.declared.Address.TheVariants.{Indirect}
use Rattle.operands.specs.declared.Modification.{Modification}
use Rattle.pages_apart.specs.Having.{has_at}
use Rattle.pages_apart.specs.Shared.{HasExactly, LastThree, ZacIsLack, NopIsMar, LarpIsMar}

-- a test of a byte, computed over all bytes: where f passes, g does
byte_is : (f g : ℕ → Bool) → T (all (λ u. pick (f u) (g u) true) 8 0) → (u : ℕ) → u < 256 → T (f u) → T (g u)
byte_is f g t u h p = go (f u) (all_at (λ u. pick (f u) (g u) true) 8 0 u t (omega arith) (omega arith)) p
  where
    go : (b : Bool) → T (pick b (g u) true) → T b → T (g u)
    go true x p = x
    go false x p = absurd p

one_byte : (f : ℕ → Bool) (b : ℕ) → T (all (λ u. pick (f u) (eqb u b) true) 8 0) → (u : ℕ) → u < 256 → T (f u) → u ≡ b
one_byte f b t u h p = eqb→eq u b (byte_is f (λ u. eqb u b) t u h p)

-- a word of a page that prints u and l: its two bytes
upper_of : (u l : String) (w : ℕ) → T (both (fits u 8 (w / 256)) (low_fits l (w % 256))) → T (fits u 8 (w / 256))
upper_of u l w t = both_left (fits u 8 (w / 256)) (low_fits l (w % 256)) t

lower_of : (u l : String) (w : ℕ) → T (both (fits u 8 (w / 256)) (low_fits l (w % 256))) → T (low_fits l (w % 256))
lower_of u l w t = both_right (fits u 8 (w / 256)) (low_fits l (w % 256)) t

pub last_three : LastThree
last_three = refl

-- two tests that pass where the other does
exactly : (f g : Bool) → (T f → T g) → (T g → T f) → f ≡ g
exactly true true h k = refl
exactly true false h k = absurd (h tt)
exactly false true h k = absurd (k tt)
exactly false false h k = refl

-- a page that has the word v, and of whose words each is v
one_word : (place v : ℕ) → T (has_at pages place v) → ((w : ℕ) → w < 65536 → T (has_at pages place w) → w ≡ v) → HasExactly place (λ w. eqb w v)
one_word place v has only w h =
    exactly (has_at pages place w) (eqb w v)
    (λ t. subst (λ (x : ℕ). T (eqb x v)) (sym (only w h t)) (eqb_refl v))
    (λ t. subst (λ (x : ℕ). T (has_at pages place x)) (sym (eqb→eq w v t)) has)

zac_word : (w : ℕ) → w < 65536 → T (has_at pages 130 w) → w ≡ 0xCA00
unfolding low_fits
zac_word w h t =
    let u : w / 256 ≡ 0xCA = one_byte (λ u. fits "1100 1010" 8 u) 0xCA tt (w / 256) (omega arith) (upper_of "1100 1010" "0000 0000" w t) in
    let l : w % 256 ≡ 0 = one_byte (λ u. low_fits "0000 0000" u) 0 tt (w % 256) (omega arith) (lower_of "1100 1010" "0000 0000" w t) in
    omega arith

pub zac_is_lack : ZacIsLack
unfolding low_fits decode_of
zac_is_lack = record { words = one_word 130 0xCA00 tt zac_word; meaning = refl }

nop_word : (w : ℕ) → w < 65536 → T (has_at pages 131 w) → w ≡ 0x5500
unfolding low_fits
nop_word w h t =
    let u : w / 256 ≡ 0x55 = one_byte (λ u. fits "0101 0101" 8 u) 0x55 tt (w / 256) (omega arith) (upper_of "0101 0101" "0000 0000" w t) in
    let l : w % 256 ≡ 0 = one_byte (λ u. low_fits "0000 0000" u) 0 tt (w % 256) (omega arith) (lower_of "0101 0101" "0000 0000" w t) in
    omega arith

pub nop_is_mar : NopIsMar
unfolding low_fits decode_of address_mode_of
nop_is_mar = record { words = one_word 131 0x5500 tt nop_word; meaning = refl }

larp_words : (k : ℕ) → k < 8 → decode_of (0x5588 + k) ≡ auxiliary (Mar (Indirect (record { modification = Modification.None; next = Some k })))
unfolding low_fits decode_of address_mode_of indirect_of modification_of next_of
larp_words zero h = refl
larp_words (suc zero) h = refl
larp_words (suc (suc zero)) h = refl
larp_words (suc (suc (suc zero))) h = refl
larp_words (suc (suc (suc (suc zero)))) h = refl
larp_words (suc (suc (suc (suc (suc zero))))) h = refl
larp_words (suc (suc (suc (suc (suc (suc zero)))))) h = refl
larp_words (suc (suc (suc (suc (suc (suc (suc zero))))))) h = refl
larp_words (suc (suc (suc (suc (suc (suc (suc (suc k)))))))) h = absurd (omega (arith, h))

larp_word : (w : ℕ) → w < 65536 → T (has_at pages 132 w) → (0x5588 ≤ w) × (w ≤ 0x558F)
unfolding low_fits
larp_word w h t =
    let u : w / 256 ≡ 0x55 = one_byte (λ u. fits "0101 0101" 8 u) 0x55 tt (w / 256) (omega arith) (upper_of "0101 0101" "1000 1RRR" w t) in
    let l : w % 256 / 8 ≡ 0x11
    = eqb→eq (w % 256 / 8) 0x11 (byte_is (λ u. low_fits "1000 1RRR" u) (λ u. eqb (u / 8) 0x11) tt (w % 256) (omega arith) (lower_of "0101 0101" "1000 1RRR" w t)) in
    (omega arith, omega arith)

-- the eight words, by one computed test
larp_has : (w : ℕ) → (0x5588 ≤ w) × (w ≤ 0x558F) → T (has_at pages 132 w)
unfolding low_fits
larp_has w b = all_at (λ v. has_at pages 132 v) 3 0x5588 w tt b.0 (omega (arith, b))

and_both : (a b : Bool) → T a → T b → T (a && b)
and_both true b p q = q
and_both false b p q = p

and_parts : (a b : Bool) → T (a && b) → T a × T b
and_parts true b t = (tt, t)
and_parts false b t = absurd t

-- the bounds of LARP's words, and the test of them
module _ (w : ℕ) where
  tested : (0x5588 ≤ w) × (w ≤ 0x558F) → T (leb 0x5588 w && leb w 0x558F)
  tested b = and_both (leb 0x5588 w) (leb w 0x558F) (le→leb 0x5588 w b.0) (le→leb w 0x558F b.1)

  bounded : T (leb 0x5588 w && leb w 0x558F) → (0x5588 ≤ w) × (w ≤ 0x558F)
  bounded t = let p = and_parts (leb 0x5588 w) (leb w 0x558F) t in (leb→le 0x5588 w p.0, leb→le w 0x558F p.1)

pub larp_is_mar : LarpIsMar
larp_is_mar = record {
  words = λ w h.
      exactly (has_at pages 132 w) (leb 0x5588 w && leb w 0x558F)
      (λ t. tested w (larp_word w h t))
      (λ t. larp_has w (bounded w t));
  meaning = larp_words;
}
