-- The code tests the cells whose fields could hold more than their range; what the type of each other field holds is its range.
use mathlib.Core.Path.{refl}
use native.Mathlib.Omega.{arith}
use mir.Syntax.{w16}
use borrow.Author.Rules.{rules, elem_Fits}
use Rattle.machine.specs.RangeLaws.{in_range_tested, each_most}
use Rattle.machine.proofs.Machine.in_range.Goals as goal

pub returns : goal.returns
returns c =
    let m = c.args.self in
    let fields = c.well_formed.0.1.1 in
    let stack = fields.0.1.1.0 in
    let acc = fields.1 in
    let p = acc.1 in
    let t = p.1 in
    let pc = t.1 in
    let pfc = pc.1 in
    let ar = pfc.1.0 in
    in_range_tested m (
      (refl, (omega (arith, acc.0.1), tt)),
      (
        (refl, (omega (arith, p.0.1), tt)),
        (
          (refl, (omega (arith, t.0.1), tt)),
          (
            (refl, (omega (arith, pc.0.1), tt)),
            (
              (refl, (omega (arith, pfc.0.1), tt)),
              (
                (search (rules, ar), each_most 65535 m.ar (λ i. omega (arith, (elem_Fits w16 w16 m.ar ar.0 i ar.1.1 tt).fits))),
                (
                  (search (rules, stack), each_most 65535 m.stack.words (λ i. omega (arith, (elem_Fits w16 w16 m.stack.words stack.0 i stack.1.1 tt).fits))),
                  tt,
                ),
              ),
            ),
          ),
        ),
      ),
    )
