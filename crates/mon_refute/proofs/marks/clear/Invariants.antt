use Rattle.std.proofs.Common.{drop}
use Rattle.mon_refute.proofs.Clearing.{Clearing}
use Rattle.mon_refute.proofs.marks.clear.Given as goal

abbrev pub invariant-loop-literal : goal.invariant-loop-literal
invariant-loop-literal l = Clearing l.clause l.fn.marks (drop l.literal-index l.clause) l.marks
