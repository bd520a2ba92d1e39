use Rattle.std.proofs.Common.{take}
use Rattle.mon_trail.specs.Picks.{AllOn}
use Rattle.mon_trail.proofs.pick.pick_open.Given as goal

abbrev pub invariant-loop-place : goal.invariant-loop-place
invariant-loop-place l = AllOn l.marks (take l.place l.f.clauses)
