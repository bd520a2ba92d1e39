use Rattle.std.proofs.Common.{◌≡◌, ◌++◌, drop}
use Rattle.mon_encode.specs.Clauses.{or_all_apart}
use Rattle.mon_encode.proofs.hidden.push_all_apart.Given as goal

abbrev pub invariant-loop-other : goal.invariant-loop-other
invariant-loop-other l = record {
  vars : l.f.vars ≡ l.fn.f.vars;
  so_far : l.f.clauses ++ or_all_apart l.base l.shape (drop l.other-index l.shapes) ≡ l.fn.f.clauses ++ or_all_apart l.base l.shape l.shapes;
}
