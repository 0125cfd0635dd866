-- What a page's rule gives, and what follows every pass (document 01, "Steps, repeats and runs").
use Rattle.std.specs.Prelude.{Bool, cond, ◌&&◌, ℕ, ◌-◌, ltb, Option, Some, None}
use Rattle.alu.specs.Registers.{wrapped_sum}
use Rattle.machine.specs.declared.Machine.{Machine}
use Rattle.alu.specs.declared.Sum.{Sum}
use Rattle.machine.specs.Cells.{with_acc, with_ov, with_c, with_pc, with_mid, with_rptc}
use Rattle.pages.specs.declared.Store.TheVariants.{Nothing, Word, Move, Sent}
use Rattle.pages.specs.declared.Effect.{Effect}

-- the cells that a sum or a difference leaves
abbrev pub with_sum : Machine → Sum → Machine
with_sum m s = with_c (with_ov (with_acc m s.acc) s.ov) s.c

-- a rule that changes cells only
abbrev pub kept : Machine → Effect
kept m = record { m = m; store = Nothing; jump = None }

-- one that stores a data word at its operand's address
abbrev pub stored : Machine → ℕ → Effect
stored m word = record { m = m; store = Word word; jump = None }

-- one that moves its operand's word
abbrev pub copied : Machine → ℕ → Effect
copied m word = record { m = m; store = Move word; jump = None }

-- one that sends a word
abbrev pub sent : Machine → ℕ → Effect
sent m word = record { m = m; store = Sent word; jump = None }

-- one that sends PC elsewhere
abbrev pub jumped : Machine → ℕ → Effect
jumped m to = record { m = m; store = Nothing; jump = Some to }

-- "PC moves past the instruction's words, modulo 65,536, or to where the instruction sends it"
unfoldable pub destination : Option ℕ → ℕ → ℕ → ℕ
destination None pc words = wrapped_sum pc words
destination (Some a) pc words = a

-- "If RPTC is above 0 after a repeatable instruction's pass, RPTC falls by 1, MID becomes 1 and PC stays; otherwise MID becomes 0 and PC moves"
unfoldable pub followed : Machine → Option ℕ → ℕ → Bool → Machine
followed m jump words repeatable =
    cond (repeatable && ltb 0 m.rptc)
    (with_mid (with_rptc m (m.rptc - 1)) 1)
    (with_pc (with_mid m 0) (destination jump m.pc words))
