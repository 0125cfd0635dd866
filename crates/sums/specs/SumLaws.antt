-- What `settled` comes to, from facts that omega reads.
use Rattle.std.specs.Prelude.{◌≡◌, refl, Bool, cond, ◌||◌, ℕ, ◌+◌, ◌*◌, ◌-◌, ◌/◌, ◌%◌, ◌^◌, ◌≤◌, ◌<◌, leb, ltb, eqb, ℤ, pos, negsuc, ◌+ℤ◌, ◌-ℤ◌}
use Rattle.std.proofs.Math.Path.{sym, ap}
use Rattle.std.proofs.Common.{◌∙◌, arith}
use Rattle.std.proofs.Math.Bool.{true, false}
use Rattle.std.proofs.Math.IntN.{sub_ℕ}
use borrow.Author.Tests.{lt-ltb, le-ltb, le-leb, lt-leb, leb-true, leb-false, ltb-true, ltb-false}
use Rattle.alu.specs.Whole.{up, dn, part, sub_is, add_is, minus_is, eq_from}
use Rattle.alu.specs.Word.{signed, low}
use Rattle.alu.specs.WordLaws.{signed_is, low_is}
use Rattle.alu.specs.Sums.{holds, held, settled, carry, no_borrow, added}
use Rattle.alu.specs.declared.Sum.{Sum}

pub holds_in : (s : ℤ) → up s < 2 ^ 31 → dn s ≤ 2 ^ 31 → holds s ≡ true
unfolding holds
holds_in (pos n) h k = lt-ltb n (2 ^ 31) h
holds_in (negsuc n) h k = simp (le-leb n 0x7FFF_FFFF (omega arith))

pub holds_over : (s : ℤ) → 2 ^ 31 ≤ up s → holds s ≡ false
unfolding holds
holds_over (pos n) h = le-ltb n (2 ^ 31) h
holds_over (negsuc n) h = absurd (omega arith)

pub holds_under : (s : ℤ) → 2 ^ 31 < dn s → holds s ≡ false
unfolding holds
holds_under (pos n) h = absurd (omega arith)
holds_under (negsuc n) h = simp (lt-leb n 0x7FFF_FFFF (omega arith))

pub held_over : (s : ℤ) → 0 < up s → held s ≡ 0x7FFF_FFFF
unfolding held
held_over (pos n) h = refl
held_over (negsuc n) h = absurd (omega arith)

pub held_under : (s : ℤ) → 0 < dn s → held s ≡ 0x8000_0000
unfolding held
held_under (pos n) h = absurd (omega arith)
held_under (negsuc n) h = refl

-- m less b times 2 ^ 32
unfoldable pub net : ℕ → ℕ → ℤ
net m b = sub_ℕ m (2 ^ 32 * b)

pub net_is : (m b : ℕ) → up (net m b) + 2 ^ 32 * b ≡ m + dn (net m b)
unfolding net
net_is m b = sub_is m (2 ^ 32 * b)

pub net_eq : (m b : ℕ) (s : ℤ) → up s + 2 ^ 32 * b ≡ m + dn s → net m b ≡ s
net_eq m b s h = eq_from (net m b) s (omega (arith, net_is m b))

-- ACC where an overflow is told and not worked out
unfoldable pub held_as : ℕ → Bool → Bool → ℕ → ℕ
held_as low over under ovm = cond (eqb ovm 1) (cond over 0x7FFF_FFFF (cond under 0x8000_0000 low)) low

-- the result where an overflow is told
abbrev overflowed_as : ℕ → ℕ → ℕ → ℕ → Sum
overflowed_as low most ovm c = record { acc = cond (eqb ovm 1) most low; ov = 1; c = c }

either_way : (t : Bool) (x : ℕ) → cond t x x ≡ x
either_way true x = refl
either_way false x = refl

module _ (m b ov ovm c : ℕ) where
  settles_over : 2 ^ 32 * b + 2 ^ 31 ≤ m → settled (net m b) ov ovm c ≡ overflowed_as (m % 2 ^ 32) 0x7FFF_FFFF ovm c
  unfolding settled
  settles_over h =
      let is = net_is m b in
      simp (holds_over (net m b) (omega arith), held_over (net m b) (omega arith), low_is (net m b) m b 0 (omega arith))

  settles_under : m + 2 ^ 31 < 2 ^ 32 * b → settled (net m b) ov ovm c ≡ overflowed_as (m % 2 ^ 32) 0x8000_0000 ovm c
  unfolding settled
  settles_under h =
      let is = net_is m b in
      simp (holds_under (net m b) (omega arith), held_under (net m b) (omega arith), low_is (net m b) m b 0 (omega arith))

  settles_in : 2 ^ 32 * b ≤ m + 2 ^ 31 → m < 2 ^ 32 * b + 2 ^ 31 → settled (net m b) ov ovm c ≡ record { acc = m % 2 ^ 32; ov = ov; c = c }
  unfolding settled
  settles_in h k =
      let is = net_is m b in
      simp (holds_in (net m b) (part (net m b) (λ d. omega arith) (λ u d. omega arith)) (part (net m b) (λ d. omega arith) (λ u d. omega arith)), low_is (net m b) m b 0 (omega arith))

  pub settles : (over under : Bool) → leb (b * 2 ^ 32 + 2 ^ 31) m ≡ over → ltb (m + 2 ^ 31) (b * 2 ^ 32) ≡ under
      → record { acc = held_as (m % 2 ^ 32) over under ovm; ov = cond (over || under) 1 ov; c = c } ≡ settled (net m b) ov ovm c
  unfolding held_as
  settles true under e f = sym (settles_over (omega (arith, leb-true (b * 2 ^ 32 + 2 ^ 31) m e)))
  settles false true e f = sym (settles_under (omega (arith, ltb-true (m + 2 ^ 31) (b * 2 ^ 32) f)))
  settles false false e f =
      ap (λ (x : ℕ). record { acc = x; ov = ov; c = c }) (either_way (eqb ovm 1) (m % 2 ^ 32))
      ∙ sym (settles_in (omega (arith, ltb-false (m + 2 ^ 31) (b * 2 ^ 32) f)) (omega (arith, leb-false (b * 2 ^ 32 + 2 ^ 31) m e)))

-- A sum and a difference, as such numbers: a word's sign bit, w / 2 ^ 31, is worth 2 ^ 32 less
pub add_net : (acc x : ℕ) → net (acc + x) (acc / 2 ^ 31 + x / 2 ^ 31) ≡ signed 32 acc +ℤ signed 32 x
add_net acc x = net_eq _ _ _ (omega (arith, add_is (signed 32 acc) (signed 32 x), signed_is 32 acc, signed_is 32 x))

pub subtract_net : (acc x : ℕ) → x < 2 ^ 32 → net (acc + (2 ^ 32 - x)) (acc / 2 ^ 31 + (1 - x / 2 ^ 31)) ≡ signed 32 acc -ℤ signed 32 x
subtract_net acc x h = net_eq _ _ _ (omega (arith, minus_is (signed 32 acc) (signed 32 x), signed_is 32 acc, signed_is 32 x))

pub no_borrow_lem : (acc x : ℕ) → acc < 2 ^ 32 → x < 2 ^ 32 → (acc + (2 ^ 32 - x)) / 2 ^ 32 ≡ no_borrow acc x
unfolding no_borrow
no_borrow_lem acc x h k = go (leb x acc) refl
  where
    go : (t : Bool) → leb x acc ≡ t → (acc + (2 ^ 32 - x)) / 2 ^ 32 ≡ cond t 1 0
    go true e = omega (arith, leb-true x acc e)
    go false e = omega (arith, leb-false x acc e)

pub add_settled : (acc x ov ovm : ℕ) → settled (net (acc + x) (acc / 2 ^ 31 + x / 2 ^ 31)) ov ovm ((acc + x) / 2 ^ 32) ≡ added acc x ov ovm
unfolding added carry
add_settled acc x ov ovm = rw (add_net acc x)
