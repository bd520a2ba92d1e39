use Rattle.std.proofs.Common.{◌≡◌, ◌++◌, take, drop, map}
use Rattle.mon_session.specs.Tracks.{offered}
use Rattle.mon_session.proofs.tracks.offer_in.Given as goal

abbrev pub invariant-loop-place : goal.invariant-loop-place
invariant-loop-place l = l.tracks.items ≡ map (offered l.number) (take l.place l.fn.tracks.items) ++ drop l.place l.fn.tracks.items
