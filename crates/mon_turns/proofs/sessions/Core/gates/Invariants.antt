use Rattle.std.proofs.Common.{◌≡◌, ◌++◌, drop, map, filter}
use Rattle.mon_turns.specs.Core.{gates, is_full}
use Rattle.mon_turns.proofs.sessions.Core.gates.Given as goal

abbrev pub invariant-loop-connection : goal.invariant-loop-connection
invariant-loop-connection l =
    l.gates ++ map (λ c. c.session.number) (filter is_full (drop l.connection-index l.self.state.sessions)) ≡ gates l.self.state
