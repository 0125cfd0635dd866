-- The bits of an indirect operand that are free, and a word without them.
use Rattle.std.specs.Prelude.{◌≡◌, refl, Bool, true, false, ℕ, ◌+◌, ◌*◌, ◌/◌, ◌%◌, ◌<◌, ◌≤◌, T, eqb, ltb}
use Rattle.std.proofs.Common.{◌∙◌, ap, arith, ltb→lt, lt-ltb, le-ltb}
use Prim.Native.String.{String}
use Rattle.instructions.specs.Every.{all, all_at, by_order}
use Rattle.instructions.specs.Encoding.{pick, both, low_fits, address_mode_of, indirect_of, next_of, modification_of}
use Rattle.operands.specs.Bits.{modification_bits}
use Rattle.operands.specs.declared.Address.TheVariants as operand
use Rattle.encodings.specs.Encode.{is_indirect, address_bits, indirect_bits, next_bits}

-- A low byte without the bits that are free: 2 to 0 of an indirect operand whose bit 3 is 0.
unfoldable pub cleared : ℕ → ℕ
cleared low = pick (ltb low 128) low (pick (eqb (low / 8 % 2) 1) low (low / 8 * 8))

pub cleared_below : T (all (λ low. ltb (cleared low) 256) 8 0)
unfolding cleared
cleared_below = tt

-- Test: a low byte as t prints it stays one, and passes f, without the bits that are free.
pub low_test : String → (ℕ → Bool) → ℕ → Bool
low_test t f low = pick (low_fits t low) (both (low_fits t (cleared low)) (f (cleared low))) true

pub if_so : (a b : Bool) → T (pick a b true) → T a → T b
if_so true b t h = t
if_so false b t h = absurd h

pub low_test_lem : (t : String) (f : ℕ → Bool) (low : ℕ) → T (all (low_test t f) 8 0) → low < 256 → T (low_fits t low)
    → T (both (low_fits t (cleared low)) (f (cleared low)))
unfolding low_test
low_test_lem t f low a h o =
    if_so (low_fits t low) (both (low_fits t (cleared low)) (f (cleared low))) (all_at (low_test t f) 8 0 low a (omega arith) (omega arith)) o

-- the fields that an operand makes are those of its low byte
abbrev pub operand_fields : ℕ → Bool
operand_fields low = both (eqb (is_indirect (address_mode_of low)) (low / 128 % 2)) (eqb (address_bits (address_mode_of low)) (low % 128))

abbrev pub branch_operand : ℕ → Bool
branch_operand low = eqb (indirect_bits (indirect_of low)) (low % 128)

pub operands_tested : T (all (low_test "IDDD DDDD" operand_fields) 8 0)
unfolding low_test cleared low_fits address_mode_of indirect_of next_of modification_of is_indirect address_bits indirect_bits modification_bits next_bits
operands_tested = tt

pub branches_tested : T (all (low_test "1DDD DDDD" branch_operand) 8 0)
unfolding low_test cleared low_fits indirect_of next_of modification_of indirect_bits modification_bits next_bits
branches_tested = tt

-- The bits that are free change no operand.
pub free_indirect : (low : ℕ) → eqb (low / 8 % 2) 1 ≡ false → indirect_of (low / 8 * 8) ≡ indirect_of low
unfolding indirect_of next_of
free_indirect low n =
    let m : low / 8 * 8 / 16 % 8 ≡ low / 16 % 8 = omega arith in
    let h : low / 8 * 8 / 8 ≡ low / 8 = omega arith in
    rw (m, h, n)

pub free_address : (low : ℕ) → 128 ≤ low → eqb (low / 8 % 2) 1 ≡ false → address_mode_of (low / 8 * 8) ≡ address_mode_of low
unfolding address_mode_of
free_address low d n =
    rw (le-ltb low 128 d, le-ltb (low / 8 * 8) 128 (omega arith)) (ap operand.Indirect (free_indirect low n))

pub by_bool : {P : Type 0} (b : Bool) → (b ≡ true → P) → (b ≡ false → P) → P
by_bool true y n = y refl
by_bool false y n = n refl

pub same_operand : (low : ℕ) → (address_mode_of (cleared low) ≡ address_mode_of low) × (indirect_of (cleared low) ≡ indirect_of low)
unfolding cleared
same_operand low =
    by_order low 128 (λ d. whole (rw (lt-ltb low 128 d)))
    (λ d. by_bool (eqb (low / 8 % 2) 1) (λ n. whole (rw (le-ltb low 128 d, n)))
    (λ n. let e : cleared low ≡ low / 8 * 8 = rw (le-ltb low 128 d, n) in
    (ap address_mode_of e ∙ free_address low d n, ap indirect_of e ∙ free_indirect low n)))
  where
    whole : cleared low ≡ low → (address_mode_of (cleared low) ≡ address_mode_of low) × (indirect_of (cleared low) ≡ indirect_of low)
    whole e = (ap address_mode_of e, ap indirect_of e)

-- the word without the bits that are free
abbrev pub cleared_word : ℕ → ℕ
cleared_word w = w / 256 * 256 + cleared (w % 256)

pub cleared_lt : (w : ℕ) → cleared (w % 256) < 256
cleared_lt w =
    ltb→lt (cleared (w % 256)) 256
    (all_at (λ low. ltb (cleared low) 256) 8 0 (w % 256) cleared_below (omega arith) (omega arith))

pub cleared_low : (w : ℕ) → cleared_word w % 256 ≡ cleared (w % 256)
cleared_low w = omega (arith, cleared_lt w)

pub cleared_upper : (w : ℕ) → cleared_word w / 256 ≡ w / 256
cleared_upper w = omega (arith, cleared_lt w)
