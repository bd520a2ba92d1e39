use Rattle.std.proofs.Common.{◌≡◌, ◌≤◌, length, reverse, drop}
use Rattle.mon_cdcl.proofs.learn.reversed.Given as goal

abbrev pub invariant-loop-at : goal.invariant-loop-at
invariant-loop-at l = (l.at ≤ length l.items) × (l.out ≡ reverse (drop l.at l.items))

abbrev pub decreases-loop-at : goal.decreases-loop-at
decreases-loop-at l = l.at
