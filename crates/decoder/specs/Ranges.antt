-- A test that says the same over a range of bytes, as the arms of a `match` ask.
use Rattle.std.specs.Prelude.{◌≡◌, refl, Bool, true, false, not, ℕ, ◌≤◌, ◌<◌, T}
use Rattle.std.proofs.Common.{arith}
use Rattle.instructions.specs.Every.{all, all_at, between_is}
use Rattle.instructions.specs.Encoding.{pick, between}

-- Test: from lo on and below hi, f says t.
abbrev pub says_from : ℕ → ℕ → Bool → (ℕ → Bool) → ℕ → Bool
says_from lo hi t f k = pick (between lo hi k) (pick t (f k) (not (f k))) true

said : (t b : Bool) → T (pick t b (not b)) → t ≡ b
said true true h = refl
said true false h = absurd h
said false true h = absurd h
said false false h = refl

pub says : (f : ℕ → Bool) (t : Bool) (lo hi k : ℕ) → T (all (says_from lo hi t f) 8 0) → lo ≤ k → k < hi → k < 256 → t ≡ f k
says f t lo hi k every l h byte =
    said t (f k) (rw (between_is lo hi k l h) at (all_at (says_from lo hi t f) 8 0 k every (omega arith) (omega arith)))
