use Rattle.std.proofs.Common.{◌-◌, ◌^◌}
use Rattle.mon_plain.specs.Trail.{Stands, rank_of}
use Rattle.mon_plain.proofs.solve.search.Given as goal

abbrev pub invariant-loop-trail : goal.invariant-loop-trail
invariant-loop-trail l = Stands l.f l.log.items l.trail.items l.marks

abbrev pub decreases-loop-trail : goal.decreases-loop-trail
decreases-loop-trail l = 3 ^ l.f.vars - rank_of l.f l.trail.items
