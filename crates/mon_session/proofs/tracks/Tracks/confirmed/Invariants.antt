use Rattle.std.proofs.Common.{◌≡◌, drop, None}
use Rattle.mon_session.specs.Tracks.{confirmed_in}
use Rattle.mon_session.proofs.tracks.Tracks.confirmed.Given as goal

abbrev pub invariant-loop-place : goal.invariant-loop-place
invariant-loop-place l = confirmed_in l.serial l.seen (drop l.place l.self) ≡ None
