-- Laws of a machine's cells stored in parts.
use Rattle.std.specs.Prelude.{◌≡◌, List, ◌++◌, ℕ, length}
use Rattle.std.proofs.Common.{sym, ap, ◌∙◌, length-append}
use Rattle.std.proofs.lemmas.List.Edits.{sets}
use Rattle.basic_laws.specs.Stores.{sets_append, sets_whole}
use Rattle.machine.specs.declared.Machine.{Machine}
use Rattle.machine.specs.Table.{cell_count, cell_place_of}
use Rattle.c_cells.specs.Cells.{cells_of}

in_parts : (l registers stack first pointers last : List ℕ) → length first ≡ 5 → length registers ≡ 8 → length pointers ≡ 11 → length stack ≡ 8
    → sets l 0 (first ++ (registers ++ (pointers ++ (stack ++ last))))
    ≡ sets (sets (sets (sets (sets l 0 first) 5 registers) 13 pointers) 24 stack) 32 last
in_parts l registers stack first pointers last f r p s = rw (sets_append, sets_append, sets_append, sets_append, f, r, p, s)

pub cells_length : (m : Machine) → length m.ar ≡ 8 → length m.stack.words ≡ 8 → length (cells_of m) ≡ cell_count
unfolding cells_of
cells_length m a s = simp (length-append, a, s)

-- five parts of a machine's cells, stored one after another into a slice of their number
pub parts_put : (m : Machine) (l first pointers last : List ℕ) {f registers p stack k l₁ l₂ l₃ l₄ l₅ : List ℕ}
    → cells_of m ≡ first ++ (m.ar ++ (pointers ++ (m.stack.words ++ last))) → length first ≡ 5 → length pointers ≡ 11
    → length l ≡ cell_count
    → f ≡ first
    → (registers ≡ m.ar) × (length registers ≡ 8)
    → p ≡ pointers
    → (stack ≡ m.stack.words) × (length stack ≡ 8)
    → k ≡ last
    → l₁ ≡ sets l 0 f
    → l₂ ≡ sets l₁ (cell_place_of "AR") registers
    → l₃ ≡ sets l₂ (cell_place_of "ARP") p
    → l₄ ≡ sets l₃ (cell_place_of "stack") stack
    → l₅ ≡ sets l₄ (cell_place_of "input cursor") k
    → l₅ ≡ cells_of m
parts_put m l first pointers last parts n₁ n₃ n f r p s k e₁ e₂ e₃ e₄ e₅ =
    let a : length m.ar ≡ 8 = sym (ap length r.0) ∙ r.1 in
    let w : length m.stack.words ≡ 8 = sym (ap length s.0) ∙ s.1 in
    e₅
    ∙ rw (e₄, e₃, e₂, e₁, f, r.0, p, s.0, k)
    (sym (in_parts l m.ar m.stack.words first pointers last n₁ a n₃ w))
    ∙ ap (sets l 0) (sym parts)
    ∙ sets_whole (cells_of m) l (cells_length m a w ∙ sym n)
