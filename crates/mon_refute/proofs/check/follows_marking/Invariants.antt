use Rattle.std.proofs.Common.{◌≡◌, List, drop, take, length, ◌++◌}
use Rattle.std.specs.List.{flat_map}
use Rattle.mon_cnf.specs.declared.clause.Lit.{Lit}
use Rattle.mon_refute.specs.Follow.{follows, by_hints, hinted, literals_of}
use Rattle.mon_refute.specs.Marks.{Shows, ClearBut}
use Rattle.mon_refute.proofs.check.follows_marking.Given as goal

abbrev pub invariant-loop-hint : goal.invariant-loop-hint
invariant-loop-hint l = record {
  known : (known : List Lit) × Shows l.marks known × (follows (length l.fn.marks) (l.cs ++ literals_of l.earlier) l.line ≡ by_hints (l.cs ++ literals_of l.earlier) known (drop l.hint-index l.hint-items));
  others : ClearBut (l.line.literals ++ flat_map (hinted (l.cs ++ literals_of l.earlier)) (take l.hint-index l.hint-items)) l.marks;
}
