use Rattle.std.proofs.Common.{◌≡◌, drop}
use Rattle.mon_shows.specs.Scanning.{any_at}
use Rattle.mon_shows.proofs.lookup.any_at.Given as goal

abbrev pub invariant-loop-place : goal.invariant-loop-place
invariant-loop-place l = any_at l.h l.rank (drop l.place l.u) ≡ any_at l.h l.rank (drop l.start l.u)
