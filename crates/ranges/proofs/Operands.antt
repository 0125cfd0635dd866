-- Operands and the words that a pass reads: proofs.
use Rattle.std.specs.Prelude.{◌≡◌, refl, Bool, true, false, cond, List, [], ℕ, ◌+◌, ◌-◌, ◌^◌, ◌<◌, eqb, take, Option, Some, None}
use Rattle.std.proofs.Common.{arith}
use Rattle.std.proofs.Math.Seq.{slice}
use Rattle.machine.specs.declared.Machine.{Machine}
use Rattle.operands.specs.declared.Modification.{Modification}
use Rattle.operands.specs.declared.Modification.TheVariants.{Minus, Plus, MinusReversed, MinusIndex, PlusIndex, PlusReversed}
use Rattle.operands.specs.declared.Address.{Address}
use Rattle.operands.specs.declared.Address.TheVariants as Mode
use Rattle.instructions.specs.declared.Instruction.{Instruction}
use Rattle.pages.specs.declared.Access.{Access}
use Rattle.pages.specs.declared.Traits.{Traits}
use Rattle.pages.specs.Traits.{traits_of}
use Rattle.pages.specs.Addressing.{moved, pointed, modified, addressed, address_of}
use Rattle.pages.specs.MultiplierPages.{table_address}
use Rattle.board.specs.Regions.{in_rom, in_program_b0}
use Rattle.board.specs.Windows.{window_of, program_word}
use Rattle.board.specs.Finding.{found_at}
use Rattle.board.specs.Given.{Given}
use Rattle.steps.specs.OperandFound.{operand_found, found_for}
use Rattle.steps.specs.Pass.{words_read}
use Rattle.steps.specs.Table.{second_address, second_word}
use Rattle.ranges.specs.Ranges.{WordsFit}
use Rattle.ranges.specs.Fields.{NextFits, OperandFits}
use Rattle.ranges.specs.Cells.{Fits, word_at, words_take, words_drop, set_cell, set_register, cell_fits, register_fits}
use Rattle.ranges.specs.Widths.{sum_lt, difference_lt, reversed_sum_lt, reversed_difference_lt}
use Rattle.ranges.specs.Rules.{WordsRead}

-- ---- its modification

moved_lt : (x : Modification) (ar index : ℕ) → ar < 2 ^ 16 → moved x ar index < 2 ^ 16
unfolding moved
moved_lt Modification.None ar index h = h
moved_lt Minus ar index h = difference_lt ar 1
moved_lt Plus ar index h = sum_lt ar 1
moved_lt MinusReversed ar index h = reversed_difference_lt ar index
moved_lt MinusIndex ar index h = difference_lt ar index
moved_lt PlusIndex ar index h = sum_lt ar index
moved_lt PlusReversed ar index h = reversed_sum_lt ar index

module _ {i o : ℕ} where
  pointed_keeps : (next : Option ℕ) {m : Machine} → NextFits next → Fits i o m → Fits i o (pointed next m)
  unfolding pointed
  pointed_keeps None g f = f
  pointed_keeps (Some arp) g f = set_cell "ARP" (set_cell "ARB" f (cell_fits f "ARP")) g

  pub addressed_keeps : (x : Option Address) {m : Machine} → OperandFits x → Fits i o m → Fits i o (addressed x m)
  unfolding addressed modified
  addressed_keeps None g f = f
  addressed_keeps (Some (Mode.Direct offset)) g f = f
  addressed_keeps (Some (Mode.Indirect operand)) {m} g f =
      pointed_keeps operand.next g (set_register f m.arp _ (moved_lt operand.modification _ _ (register_fits f m.arp)))

pointed_cursors : (next : Option ℕ) (m : Machine) → ((pointed next m).input_cursor ≡ m.input_cursor) × ((pointed next m).output_cursor ≡ m.output_cursor)
unfolding pointed
pointed_cursors None m = (refl, refl)
pointed_cursors (Some arp) m = (refl, refl)

pub addressed_cursors : (x : Option Address) (m : Machine) → ((addressed x m).input_cursor ≡ m.input_cursor) × ((addressed x m).output_cursor ≡ m.output_cursor)
unfolding addressed modified
addressed_cursors None m = (refl, refl)
addressed_cursors (Some (Mode.Direct offset)) m = (refl, refl)
addressed_cursors (Some (Mode.Indirect operand)) m = pointed_cursors operand.next _

-- ---- words

case : (t : Bool) (a b : List ℕ) → WordsFit a → WordsFit b → WordsFit (cond t a b)
case true a b f g = f
case false a b f g = g

window_words : (cnf a : ℕ) (rom «data» : List ℕ) → WordsFit rom → WordsFit «data» → WordsFit (window_of cnf a rom «data»)
unfolding window_of
window_words cnf a rom «data» f g =
    let shown = slice (a - 0xFF00 + 0x200) 0x300 «data» in
    case (in_rom a) (slice a 0x1000 rom) (cond (in_program_b0 cnf a) shown [])
    (words_drop a (take 0x1000 rom) (words_take 0x1000 rom f))
    (case (in_program_b0 cnf a) shown [] (words_drop (a - 0xFF00 + 0x200) (take 0x300 «data») (words_take 0x300 «data» g)) tt)

pub program_word_lt : (cnf a : ℕ) (rom «data» : List ℕ) → WordsFit rom → WordsFit «data» → program_word cnf a rom «data» < 2 ^ 16
unfolding program_word
program_word_lt cnf a rom «data» f g = word_at (window_of cnf a rom «data») 0 (window_words cnf a rom «data» f g)

or_none : (t : Bool) (x : ℕ) → x < 2 ^ 16 → cond t x 0 < 2 ^ 16
or_none true x h = h
or_none false x h = omega arith

found_lt : (access : Access) (cnf : ℕ) (l : List ℕ) (a : ℕ) → WordsFit l → (operand_found access cnf l a).word < 2 ^ 16
unfolding operand_found found_at
found_lt Access.None cnf l a f = omega arith
found_lt Access.Reads cnf l a f = word_at l a f
found_lt Access.Writes cnf l a f = omega arith

pub second_lt : (x : Instruction) (g : Given) («data» : List ℕ) (m : Machine) → WordsFit g.rom → WordsFit «data» → second_word x g «data» m < 2 ^ 16
unfolding second_word
second_lt x g «data» m f d = or_none (eqb (traits_of x).words 2) _ (program_word_lt m.cnf (second_address m) g.rom «data» f d)

pub words_read_lem : (t : Traits) (second : ℕ) (g : Given) («data» : List ℕ) (m : Machine) → second < 2 ^ 16 → WordsFit g.rom → WordsFit «data» → WordsFit g.input
    → WordsRead (words_read t second g «data» m)
unfolding words_read found_for
words_read_lem t second g «data» m h f d k = record {
  operand = found_lt t.access m.cnf «data» (address_of t.operand m) d;
  second = h;
  table = or_none t.table _ (program_word_lt m.cnf (table_address m second) g.rom «data» f d);
  next = word_at g.input m.input_cursor k;
}
