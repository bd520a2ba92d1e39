use Rattle.std.proofs.Common.{◌≡◌, ◌++◌, drop}
use Rattle.mon_core.specs.History.{armed}
use Rattle.monocle.specs.Replay.{lines_of_tables}
use Rattle.monocle.proofs.tables.push_tables.Given as goal

abbrev pub invariant-loop-place : goal.invariant-loop-place
invariant-loop-place l =
    l.bytes.items ++ lines_of_tables (drop l.place (armed l.core)) ≡ l.fn.bytes.items ++ lines_of_tables (armed l.core)
