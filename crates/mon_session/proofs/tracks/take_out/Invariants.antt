use Rattle.std.proofs.Common.{◌≡◌, ◌++◌, take, drop}
use Rattle.std.specs.Prelude.{filter, not}
use Rattle.mon_session.specs.Tracks.{is_track}
use Rattle.mon_session.proofs.tracks.take_out.Given as goal

abbrev pub invariant-loop-place : goal.invariant-loop-place
invariant-loop-place l = l.tracks.items ≡ take l.place l.fn.tracks.items ++ filter (λ t. not (is_track l.number t)) (drop l.place l.fn.tracks.items)
