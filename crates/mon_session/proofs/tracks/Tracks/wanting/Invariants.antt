use Rattle.std.proofs.Common.{◌≡◌, drop}
use Rattle.mon_session.specs.Tracks.{wanting_in}
use Rattle.mon_session.proofs.tracks.Tracks.wanting.Given as goal

abbrev pub invariant-loop-place : goal.invariant-loop-place
invariant-loop-place l = wanting_in (drop l.place l.self) ≡ wanting_in l.self
