use Rattle.std.proofs.Common.{◌≡◌, drop, map, filter}
use Rattle.std.specs.Prelude.{slice_get}
use Rattle.mon_turns.specs.Core.{armed, is_armed, shown_of}
use Rattle.mon_turns.proofs.sessions.Core.armed.Given as goal

abbrev pub invariant-loop-connection : goal.invariant-loop-connection
invariant-loop-connection l =
    slice_get (map shown_of (filter is_armed (drop l.connection-index l.self.state.sessions))) l.ahead ≡ slice_get (armed l.self.state) l.place
