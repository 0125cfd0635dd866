-- Not routine: the eight words, each chosen by a test of its own, are the list with the word set at place i, also where i is above 7.
use mathlib.Core.Path.{◌≡◌, ap}
use mathlib.Core.List.{List}
use Prim.Native.Nat.{ℕ}
use lib.ListN.{length}
use Rattle.machine.specs.Cells.{with_ar}
use Rattle.addressing.proofs.Registers.{each_by_itself}
use borrow.Author.Rules.{rules}
use Rattle.addressing.proofs.with_register.Goals as goal

pub returns : goal.returns
returns c = let before = c.args in
    let eight-registers : length before.m.ar ≡ 8 = search rules in
    ap (λ (l : List ℕ). with_ar before.m l)
    (each_by_itself before.m.ar before.i before.word eight-registers
    c.word_or.ensures
    c.word_or-2.ensures
    c.word_or-3.ensures
    c.word_or-4.ensures
    c.word_or-5.ensures
    c.word_or-6.ensures
    c.word_or-7.ensures
    c.word_or-8.ensures)
