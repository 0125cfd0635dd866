-- Not routine: the definition parts the fields by spaces, the code puts each after the first behind its space; a law says that the bytes are the same.
use Rattle.std.proofs.Common.{◌∙◌}
use Rattle.line.proofs.LineLaws.{run_put}
use Rattle.line.proofs.run_line.Goals as goal

pub returns : goal.returns
returns c = run_put _ _ c.args.m _ _
    (c.from.ensures ∙ c.number.ensures)
    c.from-2.ensures
    c.from-3.ensures
    c.from-4.ensures
    c.words_sent.ensures.result_value
    c.fit_line.ensures
