use Rattle.std.proofs.Common.{◌≤◌, length}
use Rattle.mon_cdcl.specs.Back.{FellBack}
use Rattle.mon_cdcl.proofs.backtrack.fall_back.Given as goal

abbrev pub invariant-loop-trail : goal.invariant-loop-trail
invariant-loop-trail l = (l.len ≤ length l.trail.entries.items) × FellBack l.f l.log l.fn.trail.entries.items l.fn.trail.marks.items l.trail.entries.items l.trail.marks.items (length l.trail.entries.items)

abbrev pub decreases-loop-trail : goal.decreases-loop-trail
decreases-loop-trail l = length l.trail.entries.items
