-- Not routine: a file of bytes has no line longer than `longest_line`, which the lent bytes hold, so that the line stands whole.
use Rattle.std.proofs.Common.{arith, sym, ap, ◌∙◌}
use Rattle.answers.specs.Numbers.{is_done}
use Rattle.runfile.specs.FileLaws.{given_done, given_refused, head_read}
use Rattle.replaying.specs.ReplayLaws.{placed_as, placed_whole, refused_replay}
use Rattle.replaying.proofs.put_line.Goals as goal

pub replay_accepted-requires : goal.replay_accepted-requires
replay_accepted-requires c =
    let d = given_done _ _ (sym c.read.ensures ∙ c.in-Ok.is) in
    record { accepted = d.0; counts = c.from.ensures ∙ rw d.1 (sym (head_read _ d.0)) }

pub returns-in-Ok : goal.returns-in-Ok
returns-in-Ok c = placed_whole _ _
    (λ i. omega (arith, (c.type_inv.bytes i).fits))
    c.requires
    c.replay_accepted.ensures

pub returns-in-Err : goal.returns-in-Err
returns-in-Err c =
    let g = given_refused _ _ (sym c.read.ensures ∙ c.in-Err.is) in
    placed_whole _ _ (λ i. omega (arith, (c.type_inv.bytes i).fits)) c.requires
    (placed_as _ (rw (← g) (refused_replay _ (ap is_done g))) c.refused_line.ensures)
