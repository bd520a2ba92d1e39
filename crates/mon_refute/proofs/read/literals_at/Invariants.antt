use Rattle.std.proofs.Common.{length}
use Rattle.mon_refute.specs.Text.{literal_text, FitsLiteral}
use Rattle.mon_refute.proofs.Items.{SoFar}
use Rattle.mon_refute.proofs.read.literals_at.Given as goal

abbrev pub invariant-loop-item : goal.invariant-loop-item
invariant-loop-item l = SoFar literal_text FitsLiteral l.bytes l.clause l.rest

abbrev pub decreases-loop-item : goal.decreases-loop-item
decreases-loop-item l = length l.rest
