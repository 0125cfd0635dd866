-- What each page says of its instruction besides its rule: its operand, how many words it has, whether it can be repeated, whether it reads or writes the
-- addressed data word, whether it reads a table word, and its port.
use Rattle.std.specs.Prelude.{true, false, ℕ, Some, None}
use Rattle.operands.specs.declared.Indirect.{Indirect}
use Rattle.operands.specs.declared.Address.{Address}
use Rattle.operands.specs.declared.Address.TheVariants as Mode
use Rattle.instructions.specs.declared.Instruction.{Instruction}
use Rattle.instructions.specs.declared.Instruction.TheVariants as Family
use Rattle.instructions.specs.declared.Accumulator.{Accumulator}
use Rattle.instructions.specs.declared.Multiplier.{Multiplier}
use Rattle.instructions.specs.declared.Auxiliary.{Auxiliary}
use Rattle.instructions.specs.declared.Branches.{Branches}
use Rattle.instructions.specs.declared.Transfers.{Transfers}
use Rattle.instructions.specs.declared.Modes.{Modes}
use Rattle.pages.specs.declared.Access.TheVariants as Access
use Rattle.pages.specs.declared.Port.TheVariants as Port
use Rattle.pages.specs.declared.Traits.{Traits}

-- no operand, one word, "Repeat Execution" has cycles
abbrev pub plain : Traits
plain = record { operand = None; words = 1; repeatable = true; access = Access.None; table = false; port = Port.None }

-- no operand, one word, "not repeatable"
abbrev pub constant : Traits
constant = record { operand = None; words = 1; repeatable = false; access = Access.None; table = false; port = Port.None }

-- the addressed word is read
abbrev pub reading : Address → Traits
reading a = record { operand = Some a; words = 1; repeatable = true; access = Access.Reads; table = false; port = Port.None }

-- a word is stored at the address; a store does not read its word (ruling R8)
abbrev pub writing : Address → Traits
writing a = record { operand = Some a; words = 1; repeatable = true; access = Access.Writes; table = false; port = Port.None }

-- MAR: "no use is made of the memory being referenced"
abbrev pub modifying : Address → Traits
modifying a = record { operand = Some a; words = 1; repeatable = true; access = Access.None; table = false; port = Port.None }

-- RPT: the addressed word is read; "not repeatable"
abbrev pub counting : Address → Traits
counting a = record { operand = Some a; words = 1; repeatable = false; access = Access.Reads; table = false; port = Port.None }

-- MAC and MACD: two words; the addressed word and a program word are read
abbrev pub tabled : Address → Traits
tabled a = record { operand = Some a; words = 2; repeatable = true; access = Access.Reads; table = true; port = Port.None }

-- a branch: two words, an indirect operand that makes no access, "not repeatable"
abbrev pub branching : Indirect → Traits
branching i = record { operand = Some (Mode.Indirect i); words = 2; repeatable = false; access = Access.None; table = false; port = Port.None }

-- IN stores a word, and OUT reads one
abbrev pub taking : ℕ → Address → Traits
taking port a = record { operand = Some a; words = 1; repeatable = true; access = Access.Writes; table = false; port = Port.Input port }

abbrev pub sending : ℕ → Address → Traits
sending port a = record { operand = Some a; words = 1; repeatable = true; access = Access.Reads; table = false; port = Port.Output port }

unfoldable pub accumulator_traits : Accumulator → Traits
accumulator_traits (Accumulator.Add n a) = reading a
accumulator_traits (Accumulator.Sub n a) = reading a
accumulator_traits (Accumulator.Lac n a) = reading a
accumulator_traits (Accumulator.Addh a) = reading a
accumulator_traits (Accumulator.Adds a) = reading a
accumulator_traits (Accumulator.Subh a) = reading a
accumulator_traits (Accumulator.Subs a) = reading a
accumulator_traits (Accumulator.Subc a) = reading a
accumulator_traits (Accumulator.Zalh a) = reading a
accumulator_traits (Accumulator.Zals a) = reading a
accumulator_traits (Accumulator.And a) = reading a
accumulator_traits (Accumulator.Or a) = reading a
accumulator_traits (Accumulator.Xor a) = reading a
accumulator_traits (Accumulator.Sacl n a) = writing a
accumulator_traits (Accumulator.Sach n a) = writing a
accumulator_traits (Accumulator.Lack k) = constant
accumulator_traits (Accumulator.Addk k) = constant
accumulator_traits (Accumulator.Subk k) = constant
accumulator_traits Accumulator.Cmpl = plain
accumulator_traits Accumulator.Neg = plain
accumulator_traits Accumulator.Abs = plain
accumulator_traits Accumulator.Sfl = plain
accumulator_traits Accumulator.Sfr = plain

unfoldable pub multiplier_traits : Multiplier → Traits
multiplier_traits (Multiplier.Lt a) = reading a
multiplier_traits (Multiplier.Lta a) = reading a
multiplier_traits (Multiplier.Ltp a) = reading a
multiplier_traits (Multiplier.Ltd a) = reading a
multiplier_traits (Multiplier.Lts a) = reading a
multiplier_traits (Multiplier.Mpy a) = reading a
multiplier_traits (Multiplier.Mpya a) = reading a
multiplier_traits (Multiplier.Mpys a) = reading a
multiplier_traits (Multiplier.Mpyk k) = constant
multiplier_traits (Multiplier.Sqra a) = reading a
multiplier_traits (Multiplier.Sqrs a) = reading a
multiplier_traits (Multiplier.Mac a) = tabled a
multiplier_traits (Multiplier.Macd a) = tabled a
multiplier_traits Multiplier.Pac = plain
multiplier_traits Multiplier.Apac = plain
multiplier_traits Multiplier.Spac = plain
multiplier_traits (Multiplier.Spl a) = writing a
multiplier_traits (Multiplier.Sph a) = writing a
multiplier_traits (Multiplier.Spm k) = constant

unfoldable pub auxiliary_traits : Auxiliary → Traits
auxiliary_traits (Auxiliary.Lar n a) = reading a
auxiliary_traits (Auxiliary.Sar n a) = writing a
auxiliary_traits (Auxiliary.Lark r k) = constant
auxiliary_traits (Auxiliary.Mar a) = modifying a
auxiliary_traits (Auxiliary.Adrk k) = constant
auxiliary_traits (Auxiliary.Sbrk k) = constant
auxiliary_traits (Auxiliary.Ldp a) = reading a
auxiliary_traits (Auxiliary.Ldpk k) = constant

unfoldable pub branches_traits : Branches → Traits
branches_traits (Branches.B i) = branching i
branches_traits (Branches.Banz i) = branching i
branches_traits (Branches.Bz i) = branching i
branches_traits (Branches.Bnz i) = branching i
branches_traits (Branches.Bgz i) = branching i
branches_traits (Branches.Bgez i) = branching i
branches_traits (Branches.Blz i) = branching i
branches_traits (Branches.Blez i) = branching i
branches_traits (Branches.Bv i) = branching i
branches_traits (Branches.Bnv i) = branching i
branches_traits (Branches.Call i) = branching i
branches_traits Branches.Ret = constant

unfoldable pub transfers_traits : Transfers → Traits
transfers_traits (Transfers.Dmov a) = reading a
transfers_traits (Transfers.In port a) = taking port a
transfers_traits (Transfers.Out port a) = sending port a

unfoldable pub modes_traits : Modes → Traits
modes_traits Modes.Sovm = plain
modes_traits Modes.Rovm = plain
modes_traits Modes.Ssxm = plain
modes_traits Modes.Rsxm = plain
modes_traits Modes.Cnfd = plain
modes_traits Modes.Cnfp = plain
modes_traits (Modes.Rpt a) = counting a
modes_traits (Modes.Rptk k) = constant
modes_traits Modes.Push = plain
modes_traits Modes.Pop = plain

unfoldable pub traits_of : Instruction → Traits
traits_of (Family.Accumulator i) = accumulator_traits i
traits_of (Family.Multiplier i) = multiplier_traits i
traits_of (Family.Auxiliary i) = auxiliary_traits i
traits_of (Family.Branches i) = branches_traits i
traits_of (Family.Transfers i) = transfers_traits i
traits_of (Family.Modes i) = modes_traits i
