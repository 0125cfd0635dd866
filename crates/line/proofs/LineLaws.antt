-- What a line's fields are, put down one after another.
use Rattle.std.specs.Prelude.{◌≡◌, List, [], ◌∷◌, ◌++◌, map, ℕ}
use Rattle.std.proofs.Common.{sym, ◌∙◌, append_assoc, append-nil}
use Rattle.machine.specs.declared.Machine.{Machine}
use Rattle.answers.specs.Answers.{Answer}
use Rattle.answers.specs.Numbers.{number_of}
use Rattle.board.specs.Windows.{words_sent}
use Rattle.line_digits.specs.Digits.{hexadecimal, decimal}
use Rattle.line_fields.specs.Placing.{space, newline, line_in, length_in}
use Rattle.line_fields.specs.Facts.{word_fields, cell_fields, line_put}
use Rattle.line.specs.Lines.{parted, line_of, refused_line}

parted_words : (field : List ℕ) (words : List ℕ) → parted (field ∷ map (hexadecimal 4) words) ≡ (field ++ word_fields words) ++ (newline ∷ [])
unfolding parted word_fields
parted_words field [] = rw append-nil
parted_words field (w ∷ words) = rw (parted_words (hexadecimal 4 w) words) (simp append_assoc)

-- a field with its space in front, and what follows it
field_then : (a b rest : List ℕ) → (a ++ (space ∷ b)) ++ rest ≡ a ++ (space ∷ (b ++ rest))
field_then a b rest = append_assoc a (space ∷ b) rest

five_fields : (a b c d e words end : List ℕ)
    → a ++ (space ∷ (b ++ (space ∷ (c ++ (space ∷ (d ++ (space ∷ (e ++ (words ++ end))))))))) ≡ (((((a ++ (space ∷ b)) ++ (space ∷ c)) ++ (space ∷ d)) ++ (space ∷ e)) ++ words) ++ end
five_fields a b c d e words end =
    let two = a ++ (space ∷ b) in
    let three = two ++ (space ∷ c) in
    let four = three ++ (space ∷ d) in
    let rest = words ++ end in
    sym (append_assoc (four ++ (space ∷ e)) words end
    ∙ field_then four e rest
    ∙ field_then three d (space ∷ (e ++ rest))
    ∙ field_then two c (space ∷ (d ++ (space ∷ (e ++ rest))))
    ∙ field_then a b (space ∷ (c ++ (space ∷ (d ++ (space ∷ (e ++ rest)))))))

line_put_lem : (answer steps pc acc ov : ℕ) (words : List ℕ)
    → parted (decimal answer ∷ decimal steps ∷ hexadecimal 4 pc ∷ hexadecimal 8 acc ∷ decimal ov ∷ map (hexadecimal 4) words) ≡ line_put answer steps pc acc ov words
unfolding parted line_put cell_fields
line_put_lem answer steps pc acc ov words =
    rw (parted_words (decimal ov) words, append_assoc (decimal ov))
    (five_fields (decimal answer) (decimal steps) (hexadecimal 4 pc) (hexadecimal 8 acc) (decimal ov) (word_fields words) (newline ∷ []))

-- what is put down for a run, and for a refused file
pub line_of_lem : (answer : Answer) (steps : ℕ) (m : Machine) (output : List ℕ)
    → line_of answer steps m output ≡ line_put (number_of answer) steps m.pc m.acc m.ov (words_sent m output)
unfolding line_of
line_of_lem answer steps m output = line_put_lem (number_of answer) steps m.pc m.acc m.ov (words_sent m output)

pub run_put : (answer : Answer) (steps : ℕ) (m : Machine) (output bytes : List ℕ) {a s p o next : ℕ} {words after : List ℕ}
    → a ≡ number_of answer → s ≡ steps → p ≡ m.pc → o ≡ m.ov → words ≡ words_sent m output
    → (next ≡ length_in (line_put a s p m.acc o words) bytes) × (after ≡ line_in (line_put a s p m.acc o words) bytes)
    → (next ≡ length_in (line_of answer steps m output) bytes) × (after ≡ line_in (line_of answer steps m output) bytes)
run_put answer steps m output bytes ea es ep eo ew put = rw line_of_lem (rw (ea, es, ep, eo, ew) at put)

pub refused_put : (answer : Answer) (bytes : List ℕ) {n next : ℕ} {after : List ℕ} → n ≡ number_of answer
    → (next ≡ length_in (decimal n ++ (newline ∷ [])) bytes) × (after ≡ line_in (decimal n ++ (newline ∷ [])) bytes)
    → (next ≡ length_in (refused_line answer) bytes) × (after ≡ line_in (refused_line answer) bytes)
unfolding refused_line parted
refused_put answer bytes e put = rw (← e) put
