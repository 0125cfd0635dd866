use Rattle.std.proofs.Common.{◌∙◌}
use Rattle.line.proofs.LineLaws.{refused_put}
use Rattle.line.proofs.refused_line.Goals as goal

pub returns : goal.returns
returns c = refused_put _ _ (c.from.ensures ∙ c.number-refused.ensures) c.fit_number.ensures
