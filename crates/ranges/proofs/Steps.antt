-- A step keeps the world in range: proofs.
use Rattle.std.specs.Prelude.{◌≡◌, Bool, true, false, cond, ◌&&◌, List, ℕ, ◌+◌, ◌^◌, ◌<◌, ltb, length, Option, Some, None}
use Rattle.std.proofs.Math.Path.{refl}
use Rattle.std.proofs.Common.{sym, ◌∙◌, arith, length-set}
use Rattle.std.proofs.lemmas.Bool.{false≢true}
use borrow.Author.Tests.{le-leb, eq-eqb}
use Rattle.machine.specs.declared.Machine.{Machine}
use Rattle.machine.specs.RangeLaws.{ranged, in_range_lem}
use Rattle.answers.specs.Answers.{Done}
use Rattle.answers.proofs.NumberLaws.{done_is}
use Rattle.instructions.specs.declared.Instruction.{Instruction}
use Rattle.instructions.specs.declared.Decoded.{Decoded}
use Rattle.instructions.specs.declared.Decoded.TheVariants.{Built, Unbuilt, Nothing}
use Rattle.pages.specs.declared.Store.{Store}
use Rattle.pages.specs.declared.Store.TheVariants as Left
use Rattle.pages.specs.Passes.{destination, followed}
use Rattle.pages.specs.Traits.{traits_of}
use Rattle.pages.specs.Addressing.{address_of}
use Rattle.board.specs.declared.Region.{Region}
use Rattle.board.specs.Regions.{move_allowed}
use Rattle.board.specs.Slices.{memories_fit, port_fits, slices_fit}
use Rattle.board.specs.SliceLaws.{slices_fit_lem, port_left}
use Rattle.board.specs.Given.{Given}
use Rattle.steps.specs.declared.Write.{Write}
use Rattle.steps.specs.Rows.{Row, NoneHolds}
use Rattle.steps.specs.OperandFound.{found_for}
use Rattle.steps.specs.Refusals.{takes, sends, input_dry, output_full, pass_rows, access_rows, rest_rows}
use Rattle.steps.specs.Stores.{write_of, data_after, output_after}
use Rattle.steps.specs.Pass.{words_read, effect_of, passed_machine, passed_write, performed}
use Rattle.steps.specs.World.{World}
use Rattle.steps.specs.Table.{decoded_at, second_word, table_for, check_rows, fetch_rows, encoding_rows, instruction_rows, repeat_rows}
use Rattle.steps.specs.Step.{after_store, step_of}
use Rattle.steps.proofs.RowLaws.{row_not}
use Rattle.steps.proofs.TableLaws.{step_world}
use Rattle.laws.proofs.Steps.{refused_unchanged, row_given}
use Rattle.laws.proofs.Runs.{by_first}
use Rattle.ranges.specs.Ranges.{WordsFit, WorldInRange, StepInRange}
use Rattle.ranges.specs.Fields.{FieldsFit, DecodedFits}
use Rattle.ranges.proofs.FieldLaws.{fields_at}
use Rattle.ranges.specs.Cells.{Fits, words_set, set_cell, cell_fits}
use Rattle.ranges.specs.Widths.{sum_lt}
use Rattle.ranges.specs.Rules.{StoreFits, JumpFits, EffectFits, rule_keeps}
use Rattle.ranges.proofs.Operands.{addressed_keeps, addressed_cursors, second_lt, words_read_lem, program_word_lt}

-- ---- the world's cells, and back

module _ (g : Given) (w : World) where
  cells_fit : WorldInRange g w → Fits (length g.input) (length w.output) w.m
  cells_fit k =
      let s = slices_fit_lem w.m g.rom w.«data» g.input (length w.output) k.slices_fit in
      record {
        ranged = ranged w.m k.in_range;
        reads = s.input_port.not_past;
        sends = s.output_port.not_past;
        input_most = s.input_port.size_most;
        output_most = s.output_port.size_most;
      }

module _ {i o : ℕ} {m : Machine} (f : Fits i o m) where
  fits_slices : (g : Given) («data» : List ℕ) → length g.rom ≡ 4096 → length «data» ≡ 4096 → length g.input ≡ i → slices_fit m g.rom «data» g.input o ≡ true
  unfolding slices_fit memories_fit port_fits
  fits_slices g «data» hr hd e =
      simp (
        eq-eqb _ _ hr,
        eq-eqb _ _ hd,
        e,
        le-leb i 1024 f.input_most,
        le-leb m.input_cursor i f.reads,
        le-leb o 1024 f.output_most,
        le-leb m.output_cursor o f.sends,
      )

-- ---- what follows a pass, and its store

destination_lt : (jump : Option ℕ) (pc words : ℕ) → JumpFits jump → destination jump pc words < 2 ^ 16
unfolding destination
destination_lt None pc words h = sum_lt pc words
destination_lt (Some to) pc words h = h

either : (t : Bool) {i o : ℕ} {a b : Machine} → Fits i o a → Fits i o b → Fits i o (cond t a b)
either true f g = f
either false f g = g

followed_keeps : {i o : ℕ} {m : Machine} (jump : Option ℕ) (words : ℕ) (repeatable : Bool) → Fits i o m → JumpFits jump → Fits i o (followed m jump words repeatable)
unfolding followed
followed_keeps {i} {o} {m} jump words repeatable f h =
    either (repeatable && ltb 0 m.rptc)
    (set_cell "MID" (set_cell "RPTC" f (omega (arith, cell_fits f "RPTC"))) (omega arith))
    (set_cell "PC" (set_cell "MID" f (omega arith)) (destination_lt jump m.pc words h))

-- the word of a store is of 16 bits
abbrev WordOfWriteFits : Write → Type 0
WordOfWriteFits Write.Nothing = Unit {0}
WordOfWriteFits (Write.Data address word) = word < 2 ^ 16
WordOfWriteFits (Write.Sent at word) = word < 2 ^ 16

moved_fits : (allowed : Bool) (address word : ℕ) → word < 2 ^ 16 → WordOfWriteFits (cond allowed (Write.Data address word) Write.Nothing)
moved_fits true address word h = h
moved_fits false address word h = tt

write_fits : (store : Store) (region : Region) (cnf address cursor : ℕ) → StoreFits store → WordOfWriteFits (write_of store region cnf address cursor)
unfolding write_of
write_fits Left.Nothing region cnf address cursor h = tt
write_fits (Left.Word word) region cnf address cursor h = h
write_fits (Left.Move word) region cnf address cursor h = moved_fits (move_allowed region cnf address) (address + 1) word h
write_fits (Left.Sent word) region cnf address cursor h = h

-- the slices after a store: as long as before, and of words of 16 bits
record SlicesKept (write : Write) (d output : List ℕ) : Type 0 where
  data_length : length (data_after write d) ≡ length d
  output_length : length (output_after write output) ≡ length output
  data_words : WordsFit (data_after write d)
  output_words : WordsFit (output_after write output)

slices_kept : (write : Write) (d output : List ℕ) → WordOfWriteFits write → WordsFit d → WordsFit output → SlicesKept write d output
unfolding data_after output_after
slices_kept Write.Nothing d output h f g = record { data_length = refl; output_length = refl; data_words = f; output_words = g }
slices_kept (Write.Data address word) d output h f g =
    record { data_length = length-set d address word; output_length = refl; data_words = words_set d address word h f; output_words = g }
slices_kept (Write.Sent at word) d output h f g =
    record { data_length = refl; output_length = length-set output at word; data_words = f; output_words = words_set output at word h g }

-- ---- the pass

module _ (g : Given) (d : List ℕ) (o : ℕ) (x : Instruction) (m : Machine) (f : Fits (length g.input) o m) (fields : FieldsFit x)
    (more : takes (traits_of x).port ≡ true → m.input_cursor < length g.input) (room : sends (traits_of x).port ≡ true → m.output_cursor < o)
    (hr : WordsFit g.rom) (hd : WordsFit d) (hi : WordsFit g.input) where
  effect_fits : EffectFits (length g.input) o (effect_of (traits_of x) x (second_word x g d m) g d m)
  unfolding effect_of
  effect_fits =
      rule_keeps x (words_read (traits_of x) (second_word x g d m) g d m) f (addressed_keeps (traits_of x).operand fields.operand f)
      (words_read_lem (traits_of x) (second_word x g d m) g d m (second_lt x g d m hr hd) hr hd hi) fields.numbers
      (λ e. rw (addressed_cursors (traits_of x).operand m).0 (more e)) (λ e. rw (addressed_cursors (traits_of x).operand m).1 (room e))

  passed_fits : Fits (length g.input) o (passed_machine (traits_of x) x (second_word x g d m) g d m)
  unfolding passed_machine
  passed_fits = followed_keeps (effect_of (traits_of x) x (second_word x g d m) g d m).jump (traits_of x).words (traits_of x).repeatable effect_fits.m effect_fits.jump

  passed_write_lem : WordOfWriteFits (passed_write (traits_of x) x (second_word x g d m) g d m)
  unfolding passed_write
  passed_write_lem = write_fits (effect_of (traits_of x) x (second_word x g d m) g d m).store (found_for (traits_of x) d m).region m.cnf (address_of (traits_of x).operand m) m.output_cursor effect_fits.store

-- ---- the step

module _ (g : Given) (w : World) (k : WorldInRange g w) (e : (step_of g w).answer ≡ Done) where
  built_in_range : (x : Instruction) → decoded_at g w.«data» w.m ≡ Built x → FieldsFit x
      → input_dry (traits_of x) (length g.input) w.m ≡ false → output_full (traits_of x) (length w.output) w.m ≡ false → WorldInRange g (step_of g w).world
  unfolding after_store performed input_dry output_full
  built_in_range x c fields dry full =
      let s = slices_fit_lem w.m g.rom w.«data» g.input (length w.output) k.slices_fit in
      let more = port_left (takes (traits_of x).port) (length g.input) w.m.input_cursor dry in
      let room = port_left (sends (traits_of x).port) (length w.output) w.m.output_cursor full in
      let f = cells_fit g w k in
      let write = passed_write (traits_of x) x (second_word x g w.«data» w.m) g w.«data» w.m in
      let after = slices_kept write w.«data» w.output
      (passed_write_lem g w.«data» (length w.output) x w.m f fields more room k.rom_words k.data_words k.input_words) k.data_words k.output_words in
      let n = passed_fits g w.«data» (length w.output) x w.m f fields more room k.rom_words k.data_words k.input_words in
      rw (step_world g w x c e)
      (record {
        in_range = in_range_lem _ n.ranged;
        slices_fit = rw after.output_length (fits_slices n g (data_after write w.«data») s.memories.rom_size (after.data_length ∙ s.memories.data_size) refl);
        rom_words = k.rom_words;
        input_words = k.input_words;
        data_words = after.data_words;
        output_words = after.output_words;
      })

  table : Decoded → List Row
  table c = table_for c g w.«data» (length w.output) w.m

  decoded_in_range : (c : Decoded) → decoded_at g w.«data» w.m ≡ c → DecodedFits c
      → NoneHolds (table c) → WorldInRange g (step_of g w).world
  unfolding table table_for check_rows fetch_rows encoding_rows instruction_rows repeat_rows pass_rows access_rows rest_rows
  decoded_in_range (Built x) c fields n = built_in_range x c fields (row_not (table (Built x)) "11" n) (row_not (table (Built x)) "10" n)
  decoded_in_range Unbuilt c fields n = absurd (false≢true (sym (row_not (table Unbuilt) "4" n)))
  decoded_in_range Nothing c fields n = absurd (false≢true (sym (row_not (table Nothing) "3" n)))

  done_in_range : WorldInRange g (step_of g w).world
  unfolding table
  done_in_range = decoded_in_range (decoded_at g w.«data» w.m) refl (fields_at g w.«data» w.m (program_word_lt w.m.cnf w.m.pc g.rom w.«data» k.rom_words k.data_words)) ((row_given g w).done_only e)

pub step_in_range : StepInRange
step_in_range g w k =
    by_first g w
    (λ d. done_in_range g w k (done_is _ d))
    (λ r. rw (refused_unchanged g w r) k)
