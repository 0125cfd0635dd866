-- The external reads and writes of a run in one number, as its loop keeps them.
use Rattle.std.specs.Prelude.{ℕ, ◌+◌, ◌*◌, ◌/◌, ◌%◌}
use Rattle.steps.specs.declared.Outside.{Outside}

unfoldable pub in_one : Outside → ℕ
in_one outside = outside.reads + 65536 * outside.writes

unfoldable pub apart_from : ℕ → Outside
apart_from totals = record { reads = totals % 65536; writes = totals / 65536 }
