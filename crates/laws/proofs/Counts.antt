-- Reads and writes of external RAM, of a step: proofs.
use Rattle.std.specs.Prelude.{◌≡◌, Bool, cond, List, [], ℕ, ◌+◌}
use Rattle.std.proofs.Math.Path.{refl, sym, ap}
use Rattle.std.proofs.Common.{◌∙◌, arith}
use Rattle.std.proofs.Math.Bool.{true, false}
use Rattle.machine.specs.declared.Machine.{Machine}
use Rattle.answers.specs.Answers.{Done}
use Rattle.instructions.specs.declared.Instruction.{Instruction}
use Rattle.instructions.specs.declared.Decoded.{Decoded}
use Rattle.instructions.specs.declared.Decoded.TheVariants.{Built, Unbuilt, Nothing}
use Rattle.pages.specs.declared.Access.{Access}
use Rattle.pages.specs.declared.Store.{Store}
use Rattle.pages.specs.declared.Store.TheVariants as Left
use Rattle.pages.specs.Traits.{traits_of}
use Rattle.pages.specs.Addressing.{address_of}
use Rattle.board.specs.Finding.{found_at}
use Rattle.board.specs.Given.{Given}
use Rattle.board.specs.Regions.{within, data_region, move_allowed, access_outside}
use Rattle.board.specs.RegionLaws.{outside_within, on_chip_not_outside, moves}
use Rattle.steps.specs.Plan.{Plan}
use Rattle.steps.specs.declared.Write.TheVariants as Write
use Rattle.steps.specs.OperandFound.{operand_found, found_for, outside_by}
use Rattle.steps.specs.Stores.{write_of}
use Rattle.steps.specs.Pass.{words_read, performed, passed_write, effect_of}
use Rattle.steps.specs.World.{World}
use Rattle.steps.specs.Table.{decoded_at}
use Rattle.steps.specs.Step.{page_plan, step_of}
use Rattle.steps.proofs.StoreLaws.{StoreAllowed, store_fits}
use Rattle.steps.proofs.TableLaws.{step_plan}
use Rattle.steps.specs.Tally.{plan_in}
use Rattle.steps.proofs.TallyLaws.{step_has, few_outside, refused_none}
use Rattle.laws.specs.Laws.{external_among, addresses_read, addresses_written, CountsOfAStep, StoresByAddress, words_at}

-- one address in external RAM or not
one_among : (cnf a : ℕ) → cond (within 0x400 0xFFF a) 1 0 + 0 ≡ access_outside (data_region cnf a)
one_among cnf a = rw (outside_within cnf a) (omega arith)

module _ (cnf address : ℕ) (d : List ℕ) where
  read_by : (access : Access) → (outside_by access (operand_found access cnf d address).region).reads ≡ external_among (addresses_read access address)
  unfolding outside_by operand_found found_at external_among addresses_read
  read_by Access.None = refl
  read_by Access.Reads = sym (one_among cnf address)
  read_by Access.Writes = refl

  unread_by : (access : Access) → addresses_read access address ≡ [] → (operand_found access cnf d address).word ≡ 0
  unfolding operand_found addresses_read
  unread_by Access.None e = refl
  unread_by Access.Reads e = cc
  unread_by Access.Writes e = refl

  by_address : (access : Access) (store : Store) (cursor : ℕ) → StoreAllowed access store
      → write_of store (operand_found access cnf d address).region cnf address cursor ≡ write_of store (data_region cnf address) cnf address cursor
  unfolding write_of operand_found found_at
  by_address Access.None Left.Nothing cursor f = refl
  by_address Access.None (Left.Word word) cursor f = absurd f
  by_address Access.None (Left.Move word) cursor f = absurd f
  by_address Access.None (Left.Sent word) cursor f = refl
  by_address Access.Reads store cursor f = refl
  by_address Access.Writes store cursor f = refl

  -- a data move goes from on chip to on chip
  none_moved : (allowed : Bool) (word : ℕ) → move_allowed (data_region cnf address) cnf address ≡ allowed
      → 0 ≡ external_among (addresses_written (cond allowed (Write.Data (address + 1) word) Write.Nothing))
  unfolding external_among addresses_written
  none_moved true word e = sym (one_among cnf (address + 1) ∙ on_chip_not_outside cnf (address + 1) (moves (data_region cnf address) cnf address e).to)
  none_moved false word e = refl

  written_by : (access : Access) (store : Store) (cursor : ℕ) → StoreAllowed access store
      → (outside_by access (operand_found access cnf d address).region).writes
      ≡ external_among (addresses_written (write_of store (operand_found access cnf d address).region cnf address cursor))
  unfolding outside_by operand_found found_at external_among addresses_written write_of
  written_by Access.None Left.Nothing cursor f = refl
  written_by Access.None (Left.Word word) cursor f = absurd f
  written_by Access.None (Left.Move word) cursor f = absurd f
  written_by Access.None (Left.Sent word) cursor f = refl
  written_by Access.Reads Left.Nothing cursor f = refl
  written_by Access.Reads (Left.Word word) cursor f = absurd f
  written_by Access.Reads (Left.Move word) cursor f = none_moved (move_allowed (data_region cnf address) cnf address) word refl
  written_by Access.Reads (Left.Sent word) cursor f = refl
  written_by Access.Writes Left.Nothing cursor f = absurd f
  written_by Access.Writes (Left.Word word) cursor f = sym (one_among cnf address)
  written_by Access.Writes (Left.Move word) cursor f = absurd f
  written_by Access.Writes (Left.Sent word) cursor f = absurd f

abbrev WritesStored : Plan → Type 0
WritesStored p = p.outside.writes ≡ external_among (addresses_written p.write)

page_stored : (x : Decoded) (g : Given) (d : List ℕ) (m : Machine) → WritesStored (page_plan x g d m)
unfolding page_plan performed passed_write effect_of found_for addresses_written external_among
page_stored (Built i) g d m = written_by m.cnf (address_of (traits_of i).operand m) d (traits_of i).access _ m.output_cursor (store_fits i m _ _)
page_stored Unbuilt g d m = refl
page_stored Nothing g d m = refl

module _ (g : Given) (w : World) where
  writes_stored : WritesStored (plan_in g w)
  unfolding addresses_written external_among
  writes_stored = step_has g w WritesStored (λ a. refl) (λ x. page_stored x g w.«data» w.m)

  reads_of_page : (i : Instruction) → decoded_at g w.«data» w.m ≡ Built i → (step_of g w).answer ≡ Done
      → (plan_in g w).outside.reads ≡ external_among (addresses_read (traits_of i).access (address_of (traits_of i).operand w.m))
  unfolding performed found_for
  reads_of_page i d e = ap (λ (p : Plan). p.outside.reads) (step_plan g w i d e) ∙ read_by w.m.cnf (address_of (traits_of i).operand w.m) w.«data» (traits_of i).access

  unread : (i : Instruction) → addresses_read (traits_of i).access (address_of (traits_of i).operand w.m) ≡ []
      → (words_at g w i).operand ≡ 0
  unfolding words_read found_for
  unread i e = unread_by w.m.cnf (address_of (traits_of i).operand w.m) w.«data» (traits_of i).access e

  pub counts_of_a_step : CountsOfAStep g w
  counts_of_a_step =
      let few = few_outside g w in
      record { unread = unread; reads_of_page = reads_of_page; writes_stored = writes_stored; one_read = few.one_read; one_write = few.one_write; refused_none = refused_none g w }

pub stores_by_address : StoresByAddress
unfolding passed_write effect_of found_for
stores_by_address g w i =
    by_address w.m.cnf (address_of (traits_of i).operand w.m) w.«data» (traits_of i).access _ w.m.output_cursor (store_fits i w.m _ _)
