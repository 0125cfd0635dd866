-- What the pages that are built read from a word are the fields of the instruction that they make of it.
use Rattle.std.specs.Prelude.{◌≡◌, refl, Bool, List, [], ◌∷◌, map, ℕ, ◌/◌, ◌%◌}
use Rattle.std.proofs.Common.{◌∙◌, ap}
use Prim.Native.String.{String}
use lib.Text.{eqt}
use Rattle.instructions.specs.Encoding.{Page, pick, both, under, means, address_mode_of, indirect_of}
use Rattle.instructions.specs.Pages.{pages}
use Rattle.instructions.specs.Decode.{is_built}
use Rattle.instructions.specs.declared.Decoded.{Decoded}
use Rattle.instructions.specs.declared.Decoded.TheVariants.{Built, Unbuilt, Nothing}
use Rattle.encodings.specs.Encode.{text, is_indirect, address_bits, indirect_bits, fields_of, accumulator_fields, multiplier_fields, auxiliary_fields, branch_fields, transfer_fields, mode_fields}
use Rattle.encodings.specs.Spelled.{letters, read}

abbrev pub unread : String × List (String × ℕ)
unread = ("", [])

-- the page and the fields of what a word is
unfoldable pub fields : Decoded → String × List (String × ℕ)
fields (Built i) = fields_of i
fields Unbuilt = unread
fields Nothing = unread

-- the page and the fields that it reads from a word, where it makes an instruction of the word
abbrev pub read_where : Decoded → Page → ℕ → String × List (String × ℕ)
read_where (Built i) r w = read r w
read_where Unbuilt r w = unread
read_where Nothing r w = unread

abbrev pub read_built : Page → ℕ → String × List (String × ℕ)
read_built r w = read_where (means r w) r w

abbrev pub is_operand : Page → Bool
is_operand r = eqt r.lower "IDDD DDDD"

abbrev pub is_branch_page : Page → Bool
is_branch_page r = eqt r.lower "1DDD DDDD"

pub plain_rows : (w : ℕ)
    → map (λ r. pick (is_operand r) unread (pick (is_branch_page r) unread (fields (means r w)))) pages
    ≡ map (λ r. pick (is_operand r) unread (pick (is_branch_page r) unread (read_built r w))) pages
unfolding fields fields_of accumulator_fields multiplier_fields auxiliary_fields branch_fields transfer_fields mode_fields letters
plain_rows w = refl

-- the same, with other numbers for I and D
abbrev pub numbered_with : ℕ → ℕ → (String → ℕ) → List String → List (String × ℕ)
numbered_with i d f [] = []
numbered_with i d f (c ∷ cs) = (c, pick (eqt c "I") i (pick (eqt c "D") d (f c))) ∷ numbered_with i d f cs

abbrev pub read_with : (Page → Bool) → ℕ → ℕ → ℕ → List Page → List (String × List (String × ℕ))
read_with which i d w [] = []
read_with which i d w (r ∷ rs) =
    pick (which r) (r.name, numbered_with i d (under (text r) 16 w) (letters (text r) 16)) unread ∷ read_with which i d w rs

pub operand_rows : (w : ℕ) → is_indirect (address_mode_of (w % 256)) ≡ w / 128 % 2 → address_bits (address_mode_of (w % 256)) ≡ w / 1 % 128
    → map (λ r. pick (is_operand r) (fields (means r w)) unread) pages ≡ map (λ r. pick (is_operand r) (read_built r w) unread) pages
unfolding fields fields_of accumulator_fields multiplier_fields auxiliary_fields branch_fields transfer_fields mode_fields letters
operand_rows w a b =
    ap (λ (i : ℕ). read_with (λ r. both (is_operand r) (is_built (means r w))) i (address_bits (address_mode_of (w % 256))) w pages) a
    ∙ ap (λ (d : ℕ). read_with (λ r. both (is_operand r) (is_built (means r w))) (w / 128 % 2) d w pages) b

pub branch_rows : (w : ℕ) → indirect_bits (indirect_of (w % 256)) ≡ w / 1 % 128
    → map (λ r. pick (is_branch_page r) (fields (means r w)) unread) pages ≡ map (λ r. pick (is_branch_page r) (read_built r w) unread) pages
unfolding fields fields_of accumulator_fields multiplier_fields auxiliary_fields branch_fields transfer_fields mode_fields letters
branch_rows w a = ap (λ (d : ℕ). read_with (λ r. both (is_branch_page r) (is_built (means r w))) 0 d w pages) a

pub same_rows : (w v : ℕ) → v / 256 ≡ w / 256 → address_mode_of (v % 256) ≡ address_mode_of (w % 256) → indirect_of (v % 256) ≡ indirect_of (w % 256)
    → map (λ r. pick (is_operand r) (means r v) (pick (is_branch_page r) (means r v) Nothing)) pages
    ≡ map (λ r. pick (is_operand r) (means r w) (pick (is_branch_page r) (means r w) Nothing)) pages
same_rows w v a b c = rw (a, b, c)
