use Rattle.std.proofs.Common.{length}
use Rattle.mon_refute.specs.Text.{hint_text, FitsHint}
use Rattle.mon_refute.proofs.Items.{SoFar}
use Rattle.mon_refute.proofs.read.hints_at.Given as goal

abbrev pub invariant-loop-item : goal.invariant-loop-item
invariant-loop-item l = SoFar hint_text FitsHint l.bytes l.hints l.rest

abbrev pub decreases-loop-item : goal.decreases-loop-item
decreases-loop-item l = length l.rest
