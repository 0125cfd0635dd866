-- Not routine: the answer of `set_up` is not looked at: slices of these sizes fit an accepted file, so that it cannot refuse.
use Rattle.replaying.specs.ReplayLaws.{placed_as, run_replay}
use Rattle.replaying.proofs.replay_in.Goals as goal

pub returns : goal.returns
returns c = placed_as _
    (run_replay _
    c.requires.bytes_value
    c.requires.fresh_slices c.run-ran.result
    c.requires.budget_value
    c.set_up.ensures.program_memory
    c.set_up.ensures.data_memory
    c.set_up.ensures.input_slice
    c.reset.ensures
    c.run-ran.ensures.outcome)
    c.run_line.ensures
