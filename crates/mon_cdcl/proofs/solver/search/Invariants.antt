use Rattle.std.proofs.Common.{◌≡◌, length, None}
use Rattle.mon_trail.specs.Trail.{Stands}
use Rattle.mon_cdcl.specs.Counts.{AskedAtLeast}
use Rattle.mon_cdcl.specs.Search.{work}
use Rattle.mon_cdcl.proofs.solver.search.Given as goal

abbrev pub invariant-steps : goal.invariant-steps
invariant-steps g l = record {
  stands : Stands l.f l.log.items l.trail.entries.items l.trail.marks.items;
  sized : length l.seen.flags.items ≡ l.f.vars;
  unshown : g.S.Stop.shown l.stop ≡ None;
  about : g.S.Stop.about l.stop ≡ g.S.Stop.about l.fn.stop;
  same : g.S.Stop.floor l.stop ≡ g.S.Stop.floor l.fn.stop;
  asked : AskedAtLeast (length l.log.items) (g.S.Stop.asked l.fn.stop) (g.S.Stop.asked l.stop);
}

abbrev pub decreases-steps : goal.decreases-steps
decreases-steps g l = work l.f l.restarts.left l.trail.entries.items
