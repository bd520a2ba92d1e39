use Rattle.mon_cdcl.proofs.Targets.{Aims}
use Rattle.mon_cdcl.proofs.backtrack.target.Given as goal

abbrev pub invariant-loop-at : goal.invariant-loop-at
invariant-loop-at l = Aims l.seen.flags.items l.entries l.fn.entry l.at l.found

abbrev pub decreases-loop-at : goal.decreases-loop-at
decreases-loop-at l = l.at
