use Rattle.std.proofs.Common.{◌≡◌, ◌++◌, drop, map}
use Rattle.std.specs.Prelude.{filter}
use Rattle.mon_session.specs.Tracks.{is_again}
use Rattle.mon_session.specs.Ticking.{again_step}
use Rattle.mon_session.proofs.track.Track.again.Given as goal

abbrev pub invariant-loop-place : goal.invariant-loop-place
invariant-loop-place l =
    l.outs ++ map again_step (filter (is_again l.retry l.version l.self.reported) (drop l.place l.self.live))
    ≡ l.fn.outs ++ map again_step (filter (is_again l.retry l.version l.self.reported) l.self.live)
