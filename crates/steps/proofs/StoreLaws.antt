-- A page that stores a word at its operand's address is one that writes, and every one that writes stores one. What a step stores lies on the board.
use Rattle.std.specs.Prelude.{◌≡◌, Bool, true, false, not, cond, ◌&&◌, List, ℕ, ◌+◌, ◌<◌, length}
use Rattle.std.proofs.Math.Path.{refl}
use Rattle.std.proofs.Common.{sym, subst, arith}
use Rattle.machine.specs.declared.Machine.{Machine}
use Rattle.instructions.specs.declared.Instruction.{Instruction}
use Rattle.instructions.specs.declared.Instruction.TheVariants as Family
use Rattle.instructions.specs.declared.Accumulator.{Accumulator}
use Rattle.pages.specs.AccumulatorRule.{accumulator_rule}
use Rattle.instructions.specs.declared.Multiplier.{Multiplier}
use Rattle.pages.specs.MultiplierRule.{multiplier_rule}
use Rattle.instructions.specs.declared.Auxiliary.{Auxiliary}
use Rattle.pages.specs.AuxiliaryRule.{auxiliary_rule}
use Rattle.instructions.specs.declared.Modes.{Modes}
use Rattle.pages.specs.ModesRule.{modes_rule}
use Rattle.instructions.specs.declared.Branches.{Branches}
use Rattle.pages.specs.BranchesPages.{branched, B, BANZ, BZ, BNZ, BGZ, BGEZ, BLZ, BLEZ, BV, BNV, CALL, RET}
use Rattle.pages.specs.BranchesRule.{branches_rule}
use Rattle.instructions.specs.declared.Transfers.{Transfers}
use Rattle.pages.specs.TransfersPages.{DMOV, IN, OUT}
use Rattle.pages.specs.TransfersRule.{transfers_rule}
use Rattle.pages.specs.declared.Store.{Store}
use Rattle.pages.specs.declared.Store.TheVariants as Left
use Rattle.pages.specs.declared.Access.{Access}
use Rattle.pages.specs.Traits.{accumulator_traits, multiplier_traits, auxiliary_traits, branches_traits, transfers_traits, modes_traits, traits_of}
use Rattle.pages.specs.declared.Words.{Words}
use Rattle.pages.specs.Rules.{rule_of}
use Rattle.pages.specs.Addressing.{address_of}
use Rattle.board.specs.declared.Region.{Region}
use Rattle.board.specs.Regions.{present, move_allowed}
use Rattle.board.specs.RegionLaws.{present_below, moves}
use Rattle.board.specs.Given.{Given}
use Rattle.steps.specs.declared.Write.{Write}
use Rattle.steps.specs.OperandFound.{operand_found, found_for}
use Rattle.steps.specs.Refusals.{accesses, data_absent}
use Rattle.steps.specs.Stores.{write_of}
use Rattle.steps.specs.Pass.{effect_of, passed_write}

-- what a page leaves to be stored, by its access: one that writes leaves a word for its operand's address and no other does, and one that makes no access
-- moves nothing
abbrev pub StoreAllowed : Access → Store → Type 0
StoreAllowed Access.None Left.Nothing = Unit {0}
StoreAllowed Access.None (Left.Word word) = ⊥
StoreAllowed Access.None (Left.Move word) = ⊥
StoreAllowed Access.None (Left.Sent word) = Unit {0}
StoreAllowed Access.Reads Left.Nothing = Unit {0}
StoreAllowed Access.Reads (Left.Word word) = ⊥
StoreAllowed Access.Reads (Left.Move word) = Unit {0}
StoreAllowed Access.Reads (Left.Sent word) = Unit {0}
StoreAllowed Access.Writes Left.Nothing = ⊥
StoreAllowed Access.Writes (Left.Word word) = Unit {0}
StoreAllowed Access.Writes (Left.Move word) = ⊥
StoreAllowed Access.Writes (Left.Sent word) = ⊥

none : (store : Store) → store ≡ Left.Nothing → StoreAllowed Access.None store
none store e = subst (λ (s : Store). StoreAllowed Access.None s) (sym e) tt

accumulator_fits : (i : Accumulator) (m : Machine) (w : ℕ) → StoreAllowed (accumulator_traits i).access (accumulator_rule i m w).store
unfolding accumulator_traits accumulator_rule
accumulator_fits (Accumulator.Add s a) m w = tt
accumulator_fits (Accumulator.Sub s a) m w = tt
accumulator_fits (Accumulator.Lac s a) m w = tt
accumulator_fits (Accumulator.Addh a) m w = tt
accumulator_fits (Accumulator.Adds a) m w = tt
accumulator_fits (Accumulator.Subh a) m w = tt
accumulator_fits (Accumulator.Subs a) m w = tt
accumulator_fits (Accumulator.Subc a) m w = tt
accumulator_fits (Accumulator.Zalh a) m w = tt
accumulator_fits (Accumulator.Zals a) m w = tt
accumulator_fits (Accumulator.And a) m w = tt
accumulator_fits (Accumulator.Or a) m w = tt
accumulator_fits (Accumulator.Xor a) m w = tt
accumulator_fits (Accumulator.Sacl s a) m w = tt
accumulator_fits (Accumulator.Sach s a) m w = tt
accumulator_fits (Accumulator.Lack k) m w = tt
accumulator_fits (Accumulator.Addk k) m w = tt
accumulator_fits (Accumulator.Subk k) m w = tt
accumulator_fits Accumulator.Cmpl m w = tt
accumulator_fits Accumulator.Neg m w = tt
accumulator_fits Accumulator.Abs m w = tt
accumulator_fits Accumulator.Sfl m w = tt
accumulator_fits Accumulator.Sfr m w = tt

multiplier_fits : (i : Multiplier) (m : Machine) (w : ℕ) (table : ℕ) (at : ℕ) → StoreAllowed (multiplier_traits i).access (multiplier_rule i m w table at).store
unfolding multiplier_traits multiplier_rule
multiplier_fits (Multiplier.Lt a) m w table at = tt
multiplier_fits (Multiplier.Lta a) m w table at = tt
multiplier_fits (Multiplier.Ltp a) m w table at = tt
multiplier_fits (Multiplier.Ltd a) m w table at = tt
multiplier_fits (Multiplier.Lts a) m w table at = tt
multiplier_fits (Multiplier.Mpy a) m w table at = tt
multiplier_fits (Multiplier.Mpya a) m w table at = tt
multiplier_fits (Multiplier.Mpys a) m w table at = tt
multiplier_fits (Multiplier.Mpyk k) m w table at = tt
multiplier_fits (Multiplier.Sqra a) m w table at = tt
multiplier_fits (Multiplier.Sqrs a) m w table at = tt
multiplier_fits (Multiplier.Mac a) m w table at = tt
multiplier_fits (Multiplier.Macd a) m w table at = tt
multiplier_fits Multiplier.Pac m w table at = tt
multiplier_fits Multiplier.Apac m w table at = tt
multiplier_fits Multiplier.Spac m w table at = tt
multiplier_fits (Multiplier.Spl a) m w table at = tt
multiplier_fits (Multiplier.Sph a) m w table at = tt
multiplier_fits (Multiplier.Spm k) m w table at = tt

auxiliary_fits : (i : Auxiliary) (before : Machine) (m : Machine) (w : ℕ) → StoreAllowed (auxiliary_traits i).access (auxiliary_rule i before m w).store
unfolding auxiliary_traits auxiliary_rule
auxiliary_fits (Auxiliary.Lar r a) before m w = tt
auxiliary_fits (Auxiliary.Sar r a) before m w = tt
auxiliary_fits (Auxiliary.Lark r k) before m w = tt
auxiliary_fits (Auxiliary.Mar a) before m w = tt
auxiliary_fits (Auxiliary.Adrk k) before m w = tt
auxiliary_fits (Auxiliary.Sbrk k) before m w = tt
auxiliary_fits (Auxiliary.Ldp a) before m w = tt
auxiliary_fits (Auxiliary.Ldpk k) before m w = tt

modes_fits : (i : Modes) (m : Machine) (w : ℕ) → StoreAllowed (modes_traits i).access (modes_rule i m w).store
unfolding modes_traits modes_rule
modes_fits Modes.Sovm m w = tt
modes_fits Modes.Rovm m w = tt
modes_fits Modes.Ssxm m w = tt
modes_fits Modes.Rsxm m w = tt
modes_fits Modes.Cnfd m w = tt
modes_fits Modes.Cnfp m w = tt
modes_fits (Modes.Rpt a) m w = tt
modes_fits (Modes.Rptk k) m w = tt
modes_fits Modes.Push m w = tt
modes_fits Modes.Pop m w = tt

branched_stores : (test : Bool) (pma : ℕ) (m : Machine) → (branched test pma m).store ≡ Left.Nothing
unfolding branched
branched_stores true pma m = refl
branched_stores false pma m = refl

branches_fits : (i : Branches) (before m : Machine) (pma : ℕ) → StoreAllowed (branches_traits i).access (branches_rule i before m pma).store
unfolding branches_traits branches_rule B BANZ BZ BNZ BGZ BGEZ BLZ BLEZ BV BNV CALL RET
branches_fits (Branches.B i) before m pma = tt
branches_fits (Branches.Banz i) before m pma = none _ (branched_stores _ _ _)
branches_fits (Branches.Bz i) before m pma = none _ (branched_stores _ _ _)
branches_fits (Branches.Bnz i) before m pma = none _ (branched_stores _ _ _)
branches_fits (Branches.Bgz i) before m pma = none _ (branched_stores _ _ _)
branches_fits (Branches.Bgez i) before m pma = none _ (branched_stores _ _ _)
branches_fits (Branches.Blz i) before m pma = none _ (branched_stores _ _ _)
branches_fits (Branches.Blez i) before m pma = none _ (branched_stores _ _ _)
branches_fits (Branches.Bv i) before m pma = none _ (branched_stores _ _ _)
branches_fits (Branches.Bnv i) before m pma = none _ (branched_stores _ _ _)
branches_fits (Branches.Call i) before m pma = tt
branches_fits Branches.Ret before m pma = tt

transfers_fits : (i : Transfers) (m : Machine) (w next : ℕ) → StoreAllowed (transfers_traits i).access (transfers_rule i m w next).store
unfolding transfers_traits transfers_rule DMOV IN OUT
transfers_fits (Transfers.Dmov a) m w next = tt
transfers_fits (Transfers.In port a) m w next = tt
transfers_fits (Transfers.Out port a) m w next = tt

pub store_fits : (i : Instruction) (before m : Machine) (words : Words) → StoreAllowed (traits_of i).access (rule_of i before m words).store
unfolding traits_of rule_of
store_fits (Family.Accumulator i) before m words = accumulator_fits i m words.operand
store_fits (Family.Multiplier i) before m words = multiplier_fits i m words.operand words.table words.at
store_fits (Family.Auxiliary i) before m words = auxiliary_fits i before m words.operand
store_fits (Family.Branches i) before m words = branches_fits i before m words.second
store_fits (Family.Transfers i) before m words = transfers_fits i m words.operand words.next
store_fits (Family.Modes i) before m words = modes_fits i m words.operand

-- what the data slice must be for a store: of its size, with the address in it
abbrev pub WriteFits : Write → ℕ → Type 0
WriteFits Write.Nothing size = Unit {0}
WriteFits (Write.Data address word) size = (size ≡ 4096) × (address < 4096)
WriteFits (Write.Sent at word) size = Unit {0}

-- an access that is not refused by 6 is present
present_where : (present : Bool) → not present ≡ false → present ≡ true
present_where true h = refl
present_where false h = cc

-- ---- the store of an access, where 6 does not refuse it

module _ (cnf address : ℕ) (d : List ℕ) where
  -- what is found at the operand's address, and what is stored by a page of this access
  abbrev region_by : Access → Region
  region_by access = (operand_found access cnf d address).region

  abbrev write_by : Access → Store → ℕ → Write
  write_by access store cursor = write_of store (region_by access) cnf address cursor

  moved_fits : (allowed : Bool) (region : Region) (word size : ℕ) → move_allowed region cnf address ≡ allowed → size ≡ 4096
      → WriteFits (cond allowed (Write.Data (address + 1) word) Write.Nothing) size
  moved_fits true region word size e h = let b = moves region cnf address e in (h, omega (arith, b.below))
  moved_fits false region word size e h = tt

  write_fits_by : (access : Access) (store : Store) (cursor size : ℕ) → StoreAllowed access store → size ≡ 4096
      → accesses access && not (present (region_by access)) ≡ false → WriteFits (write_by access store cursor) size
  unfolding write_of operand_found accesses
  write_fits_by access Left.Nothing cursor size f h a = tt
  write_fits_by Access.None (Left.Word word) cursor size f h a = absurd f
  write_fits_by Access.Reads (Left.Word word) cursor size f h a = absurd f
  write_fits_by Access.Writes (Left.Word word) cursor size f h a = (h, present_below cnf address (present_where _ a))
  write_fits_by access (Left.Move word) cursor size f h a = moved_fits (move_allowed (region_by access) cnf address) (region_by access) word size refl h
  write_fits_by access (Left.Sent word) cursor size f h a = tt

-- the store of a pass that 6 does not refuse
pub write_fits : (i : Instruction) (second : ℕ) (g : Given) (d : List ℕ) (m : Machine) → length d ≡ 4096 → data_absent (traits_of i) (found_for (traits_of i) d m).region ≡ false
    → WriteFits (passed_write (traits_of i) i second g d m) (length d)
unfolding passed_write effect_of data_absent found_for
write_fits i second g d m h a = write_fits_by m.cnf (address_of (traits_of i).operand m) d (traits_of i).access _ m.output_cursor (length d) (store_fits i m _ _) h a
