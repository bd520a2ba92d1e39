use Rattle.std.proofs.Common.{◌≡◌, map, take}
use Rattle.mon_trail.specs.Marks.{value_of}
use Rattle.mon_cdcl.proofs.solver.values.Given as goal

abbrev pub invariant-loop-mark : goal.invariant-loop-mark
invariant-loop-mark l = l.bits ≡ map value_of (take l.mark-index l.marks)
