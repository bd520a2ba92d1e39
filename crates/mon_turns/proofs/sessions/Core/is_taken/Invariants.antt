use Rattle.std.proofs.Common.{◌≡◌, drop, map}
use Rattle.mon_legal.specs.Sessions.{is_taken}
use Rattle.mon_turns.specs.Slots.{placed_of}
use Rattle.mon_turns.proofs.sessions.Core.is_taken.Given as goal

abbrev pub invariant-loop-connection : goal.invariant-loop-connection
invariant-loop-connection l =
    is_taken (map placed_of (drop l.connection-index l.self.state.sessions)) l.slot ≡ is_taken (map placed_of l.self.state.sessions) l.slot
