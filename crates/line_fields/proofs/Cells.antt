-- The cells' fields, one after another: what room each has, and what they make together.
use mathlib.Core.List.{List, [], ◌∷◌, ◌++◌}
use Prim.Native.Nat.{ℕ}
use Rattle.line_digits.specs.Digits.{decimal, hexadecimal}
use Rattle.line_fields.specs.Placing.{space, newline}
use Rattle.line_fields.specs.declared.numbers.Writer.{Writer}
use Rattle.line_fields.specs.Facts.{word_fields, cell_fields, line_put}
use Rattle.line_fields.specs.Writing.{Fits, Wrote, wrote_then, fits_first, fits_then}

-- the fields up to PC, and up to ACC
abbrev to_steps : ℕ → ℕ → List ℕ
to_steps answer steps = decimal answer ++ (space ∷ decimal steps)

abbrev to_pc : ℕ → ℕ → ℕ → List ℕ
to_pc answer steps pc = to_steps answer steps ++ (space ∷ hexadecimal 4 pc)

abbrev to_acc : ℕ → ℕ → ℕ → ℕ → List ℕ
to_acc answer steps pc acc = to_pc answer steps pc ++ (space ∷ hexadecimal 8 acc)

module _ (answer steps pc acc ov : ℕ) {v : Writer} (r : Fits v (cell_fields answer steps pc acc ov)) where
  acc_fits : Fits v (to_acc answer steps pc acc)
  unfolding cell_fields
  acc_fits = fits_first (to_acc answer steps pc acc) (space ∷ decimal ov) r

  pc_fits : Fits v (to_pc answer steps pc)
  pc_fits = fits_first (to_pc answer steps pc) (space ∷ hexadecimal 8 acc) acc_fits

  steps_fit : Fits v (to_steps answer steps)
  steps_fit = fits_first (to_steps answer steps) (space ∷ hexadecimal 4 pc) pc_fits

  pub answer_room : Fits v (decimal answer)
  answer_room = fits_first (decimal answer) (space ∷ decimal steps) steps_fit

  module _ {v₁ : Writer} (p₁ : Wrote v (decimal answer) v₁) where
    pub steps_room : Fits v₁ (space ∷ decimal steps)
    steps_room = fits_then p₁ (space ∷ decimal steps) steps_fit

    module _ {v₂ : Writer} (p₂ : Wrote v₁ (space ∷ decimal steps) v₂) where
      pub pc_room : Fits v₂ (space ∷ hexadecimal 4 pc)
      pc_room = fits_then (wrote_then p₁ p₂) (space ∷ hexadecimal 4 pc) pc_fits

      module _ {v₃ : Writer} (p₃ : Wrote v₂ (space ∷ hexadecimal 4 pc) v₃) where
        pub acc_room : Fits v₃ (space ∷ hexadecimal 8 acc)
        acc_room = fits_then (wrote_then (wrote_then p₁ p₂) p₃) (space ∷ hexadecimal 8 acc) acc_fits

        module _ {v₄ : Writer} (p₄ : Wrote v₃ (space ∷ hexadecimal 8 acc) v₄) where
          pub ov_room : Fits v₄ (space ∷ decimal ov)
          unfolding cell_fields
          ov_room = fits_then (wrote_then (wrote_then (wrote_then p₁ p₂) p₃) p₄) (space ∷ decimal ov) r

          pub cells_put : {v₅ : Writer} → Wrote v₄ (space ∷ decimal ov) v₅ → Wrote v (cell_fields answer steps pc acc ov) v₅
          unfolding cell_fields
          cells_put p₅ = wrote_then (wrote_then (wrote_then (wrote_then p₁ p₂) p₃) p₄) p₅

-- the cells, the words and the newline
module _ (answer steps pc acc ov : ℕ) (words : List ℕ) {v : Writer} (r : Fits v (line_put answer steps pc acc ov words)) where
  fields_fit : Fits v (cell_fields answer steps pc acc ov ++ word_fields words)
  unfolding line_put
  fields_fit = fits_first (cell_fields answer steps pc acc ov ++ word_fields words) (newline ∷ []) r

  pub cells_room : Fits v (cell_fields answer steps pc acc ov)
  cells_room = fits_first (cell_fields answer steps pc acc ov) (word_fields words) fields_fit

  module _ {v₁ : Writer} (p₁ : Wrote v (cell_fields answer steps pc acc ov) v₁) where
    pub sent_room : Fits v₁ (word_fields words)
    sent_room = fits_then p₁ (word_fields words) fields_fit

    module _ {v₂ : Writer} (p₂ : Wrote v₁ (word_fields words) v₂) where
      pub newline_room : Fits v₂ (newline ∷ [])
      unfolding line_put
      newline_room = fits_then (wrote_then p₁ p₂) (newline ∷ []) r

      pub whole_put : {v₃ : Writer} → Wrote v₂ (newline ∷ []) v₃ → Wrote v (line_put answer steps pc acc ov words) v₃
      unfolding line_put
      whole_put p₃ = wrote_then (wrote_then p₁ p₂) p₃
