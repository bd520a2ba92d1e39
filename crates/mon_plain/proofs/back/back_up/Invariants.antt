use Rattle.std.proofs.Common.{length}
use Rattle.mon_plain.specs.Search.{Backing}
use Rattle.mon_plain.proofs.back.back_up.Given as goal

abbrev pub invariant-loop-entry : goal.invariant-loop-entry
invariant-loop-entry l = Backing l.f l.fn.trail.items l.log.items l.trail.items l.marks l.number

abbrev pub decreases-loop-entry : goal.decreases-loop-entry
decreases-loop-entry l = length l.trail.items
