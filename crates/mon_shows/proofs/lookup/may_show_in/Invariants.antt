use Rattle.std.proofs.Common.{◌≡◌, drop}
use Rattle.mon_shows.specs.Scanning.{may_show_in}
use Rattle.mon_shows.proofs.lookup.may_show_in.Given as goal

abbrev pub invariant-loop-place : goal.invariant-loop-place
invariant-loop-place l = may_show_in (drop l.place l.u) l.h l.e ≡ may_show_in l.u l.h l.e
