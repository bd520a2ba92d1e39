use Rattle.std.proofs.Common.{◌≡◌, drop}
use Rattle.mon_shows.specs.Scanning.{any_may_at}
use Rattle.mon_shows.proofs.lookup.any_may_at.Given as goal

abbrev pub invariant-loop-place : goal.invariant-loop-place
invariant-loop-place l = any_may_at l.h l.rank l.e (drop l.place l.u) ≡ any_may_at l.h l.rank l.e (drop l.start l.u)
