-- Not routine: Done as the answer means that the file is accepted and the slices fit it, which is all that loading asks.
use Rattle.std.proofs.Common.{sym, ◌∙◌}
use Rattle.runfile.specs.FileLaws.{given_done}
use Rattle.runfile_setting_up.specs.SetUpLaws.{set_up_done}
use Rattle.runfile_setting_up.proofs.set_up.Goals as goal

pub load_file-requires-clause-done : goal.load_file-requires-clause-done
load_file-requires-clause-done c = set_up_done _ _ (given_done _ _ (sym c.fitting.ensures ∙ c.in_ok-n.was)).0
