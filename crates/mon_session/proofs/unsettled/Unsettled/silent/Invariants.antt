use Rattle.std.proofs.Common.{◌≡◌, ◌++◌, drop, map}
use Rattle.mon_session.specs.Ticking.{silent_step, silent_in}
use Rattle.mon_session.proofs.unsettled.Unsettled.silent.Given as goal

abbrev pub invariant-loop-place : goal.invariant-loop-place
invariant-loop-place l = l.outs ≡ l.fn.outs ++ map (silent_step l.session) (silent_in l.alarm (drop l.place l.self.edits))
