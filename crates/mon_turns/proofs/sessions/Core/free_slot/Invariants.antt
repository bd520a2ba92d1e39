use Rattle.std.proofs.Common.{◌≡◌, ◌-◌, map}
use Rattle.mon_legal.specs.Sessions.{least_free}
use Rattle.mon_turns.specs.Slots.{placed_of, free_slot}
use Rattle.mon_turns.proofs.sessions.Core.free_slot.Given as goal

abbrev pub invariant-loop-slot : goal.invariant-loop-slot
invariant-loop-slot l = least_free (64 - l.slot) l.slot (map placed_of l.self.state.sessions) ≡ free_slot l.self.state
