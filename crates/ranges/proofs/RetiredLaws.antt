-- No address is above 65,535 where check 1 is passed, and 8's row changes no answer: proofs.
use Rattle.std.specs.Prelude.{◌≡◌, Bool, cond, ℕ, ◌≤◌, Option, Some, None}
use Rattle.std.proofs.Math.Path.{refl, ap}
use Rattle.std.proofs.Common.{arith, le-ltb}
use Rattle.std.proofs.Math.Bool.{true, false, and-false}
use mathlib.Core.List.{List, [], ◌∷◌}
use Prim.Native.String.{String}
use lib.Text.{eqt}
use Rattle.machine.specs.declared.Machine.{Machine}
use Rattle.machine.specs.Range.{in_range}
use Rattle.machine.specs.RangeLaws.{ranged, most, word_most}
use Rattle.answers.specs.Answers.{Answer}
use Rattle.instructions.specs.declared.Decoded.{Decoded}
use Rattle.instructions.specs.declared.Decoded.TheVariants.{Built, Unbuilt, Nothing}
use Rattle.instructions.specs.Decode.{decode_of}
use Rattle.operands.specs.declared.Address.{Address}
use Rattle.operands.specs.declared.Address.TheVariants as Mode
use Rattle.pages.specs.Traits.{traits_of}
use Rattle.pages.specs.Addressing.{address_of}
use Rattle.board.specs.Windows.{program_word}
use Rattle.board.specs.Given.{Given}
use Rattle.steps.specs.Plan.{Plan}
use Rattle.steps.specs.Rows.{Row}
use Rattle.steps.specs.Refusals.{accesses, pass_rows, access_rows, rest_rows}
use Rattle.steps.specs.Pass.{refused, plan_by}
use Rattle.steps.specs.World.{World}
use Rattle.steps.specs.Table.{decoded_at, table_for, check_rows, fetch_rows, encoding_rows, instruction_rows, repeat_rows}
use Rattle.steps.specs.Step.{rows_of}
use Rattle.ranges.specs.Fields.{OperandFits}
use Rattle.ranges.proofs.FieldLaws.{decoded_operand}
use Rattle.ranges.specs.Retired.{AddressBelow, address_above, NoneAbove, with_row_before, former_rows, FormerOrder}

-- ---- the address

operand_below : (x : Option Address) (m : Machine) → in_range m ≡ true → OperandFits x → address_of x m ≤ 65535
unfolding address_of
operand_below None m h f = omega arith
operand_below (Some (Mode.Direct offset)) m h f = omega (arith, most (ranged m h) "DP", f)
operand_below (Some (Mode.Indirect operand)) m h f = word_most (ranged m h) "AR" m.arp

pub address_below : AddressBelow
address_below m w i h e = operand_below (traits_of i).operand m h (decoded_operand w i e)

decoded_below : (m : Machine) (w : ℕ) → in_range m ≡ true → (d : Decoded) → decode_of w ≡ d → address_above d m ≡ false
unfolding address_above
decoded_below m w h (Built i) e = rw (le-ltb 65535 (address_of (traits_of i).operand m) (address_below m w i h e)) (and-false (accesses (traits_of i).access))
decoded_below m w h Unbuilt e = refl
decoded_below m w h Nothing e = refl

pub none_above : NoneAbove
unfolding decoded_at
none_above g «data» m h = decoded_below m (program_word m.cnf m.pc g.rom «data») h (decoded_at g «data» m) refl

-- ---- a row more

module _ (name : String) (r : Row) (m : Machine) (p : Plan) where
  -- one that does not hold leaves the plan as it was
  row_more : r.given ≡ false → (rows : List Row) → plan_by (with_row_before name r rows) m p ≡ plan_by rows m p
  unfolding with_row_before plan_by
  row_more e [] = refl
  row_more e (s ∷ rows) = by (eqt s.name name) (row_more e rows)
    where
      by : (t : Bool) → plan_by (with_row_before name r rows) m p ≡ plan_by rows m p → plan_by (cond t (r ∷ s ∷ rows) (s ∷ with_row_before name r rows)) m p ≡ plan_by (s ∷ rows) m p
      by true next = rw e
      by false next = ap (cond s.given (refused m s.answer)) next

-- ---- the table of answers

module _ (a : Answer) (g : Given) (w : World) where
  -- where check 1 refuses, both tables begin with its row; where it does not, 8's row does not hold
  pub same_plan : (p : Plan) → plan_by (former_rows a g w) w.m p ≡ plan_by (rows_of g w) w.m p
  unfolding former_rows with_row_before plan_by table_for check_rows
  same_plan p = by (in_range w.m) refl
    where
      by : (t : Bool) → in_range w.m ≡ t → plan_by (former_rows a g w) w.m p ≡ plan_by (rows_of g w) w.m p
      by true e = row_more "6" _ w.m p (none_above g w.«data» w.m e) (rows_of g w)
      by false e = rw e

-- 8's row stands where document 01's order has it
pub former_order : FormerOrder
unfolding former_rows with_row_before table_for check_rows fetch_rows encoding_rows instruction_rows repeat_rows pass_rows access_rows rest_rows
former_order a g w i e = rw e
