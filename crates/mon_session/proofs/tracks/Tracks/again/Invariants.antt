use Rattle.std.proofs.Common.{◌≡◌, ◌++◌, drop, map}
use Rattle.mon_session.specs.Tracks.{again_in}
use Rattle.mon_session.specs.Ticking.{again_step}
use Rattle.mon_session.proofs.tracks.Tracks.again.Given as goal

abbrev pub invariant-loop-place : goal.invariant-loop-place
invariant-loop-place l =
    l.outs ++ map again_step (again_in l.retry l.version (drop l.place l.self)) ≡ l.fn.outs ++ map again_step (again_in l.retry l.version l.self)
