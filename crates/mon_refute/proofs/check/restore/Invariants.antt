use Rattle.std.proofs.Common.{drop, ◌++◌}
use Rattle.std.specs.List.{flat_map}
use Rattle.mon_refute.specs.Follow.{hinted, literals_of}
use Rattle.mon_refute.specs.Marks.{ClearBut}
use Rattle.mon_refute.proofs.check.restore.Given as goal

abbrev pub invariant-loop-hint : goal.invariant-loop-hint
invariant-loop-hint l = ClearBut (flat_map (hinted (l.cs ++ literals_of l.earlier)) (drop l.hint-index l.hint-items)) l.marks
