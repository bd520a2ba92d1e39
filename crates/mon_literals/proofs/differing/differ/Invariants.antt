use Rattle.mon_literals.proofs.Differences.{Walks}
use Rattle.mon_literals.proofs.differing.differ.Given as goal

abbrev pub invariant-loop-i : goal.invariant-loop-i
invariant-loop-i l = Walks l.a l.b l.count-items l.others l.i l.start l.literals
