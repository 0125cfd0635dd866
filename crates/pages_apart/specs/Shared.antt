-- The words that two pages have: "ZAC is LACK 0, NOP and LARP are MAR" (document 01). These are all, and what each is.
use Rattle.std.specs.Prelude.{◌≡◌, Bool, ◌&&◌, [], ◌∷◌, map, ℕ, ◌+◌, ◌<◌, leb, eqb, drop, Some}
use Rattle.instructions.specs.Encoding.{accumulator, auxiliary}
use Rattle.instructions.specs.Pages.{pages}
use Rattle.instructions.specs.Decode.{decode_of}
use Rattle.instructions.specs.declared.Accumulator.TheVariants.{Lack}
use Rattle.instructions.specs.declared.Auxiliary.TheVariants.{Mar}
use Rattle.operands.specs.declared.Address.TheVariants.{Direct, Indirect}
use Rattle.operands.specs.declared.Modification.{Modification}
use Rattle.pages_apart.specs.Having.{has_at}

-- The page at a place of the list has the words that pass the test, and no others.
abbrev pub HasExactly : ℕ → (ℕ → Bool) → Type 0
HasExactly place test = (w : ℕ) → w < 65536 → has_at pages place w ≡ test w

-- ZAC, NOP and LARP are the last of the list, at places 130, 131 and 132.
abbrev pub LastThree : Type 0
LastThree = map (λ p. p.name) (drop 130 pages) ≡ "ZAC" ∷ "NOP" ∷ "LARP" ∷ []

pub record ZacIsLack : Type 0 where
  pub words : HasExactly 130 (λ w. eqb w 0xCA00)
  pub meaning : decode_of 0xCA00 ≡ accumulator (Lack 0)

pub record NopIsMar : Type 0 where
  pub words : HasExactly 131 (λ w. eqb w 0x5500)
  pub meaning : decode_of 0x5500 ≡ auxiliary (Mar (Direct 0))

-- LARP k: MAR with no modification and next ARP k
pub record LarpIsMar : Type 0 where
  pub words : HasExactly 132 (λ w. leb 0x5588 w && leb w 0x558F)
  pub meaning : (k : ℕ) → k < 8 → decode_of (0x5588 + k) ≡ auxiliary (Mar (Indirect (record { modification = Modification.None; next = Some k })))
