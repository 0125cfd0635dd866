-- The sign of the accumulator, by comparisons of the word.
use Rattle.std.specs.Prelude.{◌≡◌, ◌&&◌, ◌||◌, ℕ, zero, suc, ◌+◌, ◌*◌, ◌/◌, ◌^◌, ◌<◌, leb, ltb, eqb, ℤ, pos, negsuc}
use Rattle.std.proofs.Common.{arith, lt-ltb, le-ltb, le-leb, eq-eqb, ne_eqb}
use Rattle.std.specs.Int.Signed.{le_z, lt_z}
use Rattle.std.proofs.lemmas.Bool.{lt-leb}
use Rattle.alu.specs.Whole.{up, dn}
use Rattle.alu.specs.Word.{signed}
use Rattle.alu.specs.WordLaws.{signed_is}

-- what is known of the signed reading z of the word a
record Reads (a : ℕ) (z : ℤ) : Type 0 where
  is : up z + 2 ^ 32 * (a / 2 ^ 31) ≡ a + dn z
  fits : a < 2 ^ 32

reads : (a : ℕ) → a < 2 ^ 32 → Reads a (signed 32 a)
reads a h = record { is = signed_is 32 a; fits = h }

positive : (a : ℕ) (z : ℤ) → Reads a z → ltb 0 a && ltb a (2 ^ 31) ≡ lt_z (pos 0) z
positive a (pos zero) r = simp (le-ltb 0 a (omega (arith, r.is, r.fits)))
positive a (pos (suc n)) r = simp (lt-ltb 0 a (omega (arith, r.is, r.fits)), lt-ltb a (2 ^ 31) (omega (arith, r.is, r.fits)), lt-ltb 0 (suc n) (omega arith))
positive a (negsuc n) r = simp (lt-ltb 0 a (omega (arith, r.is, r.fits)), le-ltb a (2 ^ 31) (omega (arith, r.is, r.fits)))

pub is_positive : (a : ℕ) → a < 2 ^ 32 → ltb 0 a && ltb a (2 ^ 31) ≡ lt_z (pos 0) (signed 32 a)
is_positive a h = positive a (signed 32 a) (reads a h)

not_negative : (a : ℕ) (z : ℤ) → Reads a z → ltb a (2 ^ 31) ≡ le_z (pos 0) z
not_negative a (pos n) r = simp (lt-ltb a (2 ^ 31) (omega (arith, r.is, r.fits)), le-leb 0 n (omega arith))
not_negative a (negsuc n) r = simp (le-ltb a (2 ^ 31) (omega (arith, r.is, r.fits)))

pub is_not_negative : (a : ℕ) → a < 2 ^ 32 → ltb a (2 ^ 31) ≡ le_z (pos 0) (signed 32 a)
is_not_negative a h = not_negative a (signed 32 a) (reads a h)

negative : (a : ℕ) (z : ℤ) → Reads a z → leb (2 ^ 31) a ≡ lt_z z (pos 0)
negative a (pos n) r = simp (lt-leb (2 ^ 31) a (omega (arith, r.is, r.fits)), le-ltb n 0 (omega arith))
negative a (negsuc n) r = simp (le-leb (2 ^ 31) a (omega (arith, r.is, r.fits)))

pub is_negative : (a : ℕ) → a < 2 ^ 32 → leb (2 ^ 31) a ≡ lt_z (signed 32 a) (pos 0)
is_negative a h = negative a (signed 32 a) (reads a h)

not_positive : (a : ℕ) (z : ℤ) → Reads a z → eqb a 0 || leb (2 ^ 31) a ≡ le_z z (pos 0)
not_positive a (pos zero) r = simp (eq-eqb a 0 (omega (arith, r.is, r.fits)))
not_positive a (pos (suc n)) r = simp (ne_eqb a 0 (omega (arith, r.is, r.fits)), lt-leb (2 ^ 31) a (omega (arith, r.is, r.fits)), lt-leb (suc n) 0 (omega arith))
not_positive a (negsuc n) r = simp (ne_eqb a 0 (omega (arith, r.is, r.fits)), le-leb (2 ^ 31) a (omega (arith, r.is, r.fits)))

pub is_not_positive : (a : ℕ) → a < 2 ^ 32 → eqb a 0 || leb (2 ^ 31) a ≡ le_z (signed 32 a) (pos 0)
is_not_positive a h = not_positive a (signed 32 a) (reads a h)
