use Rattle.std.proofs.Common.{length}
use Rattle.mon_cdcl.specs.Back.{Walking}
use Rattle.mon_cdcl.proofs.analyse.walk.Given as goal

abbrev pub invariant-loop-entry : goal.invariant-loop-entry
invariant-loop-entry l = Walking l.f l.fn.trail.entries.items l.log l.trail.entries.items l.trail.marks.items l.seen.flags.items l.seen.vars.items l.hints

abbrev pub decreases-loop-entry : goal.decreases-loop-entry
decreases-loop-entry l = length l.trail.entries.items
