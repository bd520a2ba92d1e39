use Rattle.std.proofs.Common.{◌≡◌, List, [], drop, take, length}
use Rattle.mon_cnf.specs.declared.clause.Lit.{Lit}
use Rattle.mon_refute.specs.Follow.{falsify}
use Rattle.mon_refute.specs.Marks.{Shows, ClearBut}
use Rattle.mon_refute.proofs.marks.start.Given as goal

abbrev pub invariant-loop-literal : goal.invariant-loop-literal
invariant-loop-literal l = record {
  known : (known : List Lit) × Shows l.marks known × (falsify (length l.marks) [] l.line ≡ falsify (length l.marks) known (drop l.literal-index l.line));
  others : ClearBut (take l.literal-index l.line) l.marks;
}
