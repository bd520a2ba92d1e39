use Rattle.std.proofs.Common.{◌≡◌, ◌++◌, take, drop}
use Rattle.std.specs.Prelude.{filter, not}
use Rattle.mon_session.specs.Tracks.{is_over}
use Rattle.mon_session.proofs.track.drop_over.Given as goal

abbrev pub invariant-loop-place : goal.invariant-loop-place
invariant-loop-place l =
    l.live.items ≡ take l.place l.fn.live.items ++ filter (λ x. not (is_over l.retry l.version l.reported x)) (drop l.place l.fn.live.items)
