use Rattle.std.proofs.Common.{◌≡◌, drop}
use Rattle.mon_shows.specs.Scanning.{must_show_in}
use Rattle.mon_shows.proofs.lookup.must_show_in.Given as goal

abbrev pub invariant-loop-place : goal.invariant-loop-place
invariant-loop-place l = must_show_in (drop l.place l.u) l.h l.e ≡ must_show_in l.u l.h l.e
