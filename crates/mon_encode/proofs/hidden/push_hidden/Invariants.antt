use Rattle.std.proofs.Common.{◌≡◌, ◌+◌, ◌*◌, ◌++◌, drop, take, length}
use Rattle.mon_encode.specs.Clauses.{sures, hidden, listed}
use Rattle.mon_encode.proofs.Above.{Told}
use Rattle.mon_encode.proofs.hidden.push_hidden.Given as goal

abbrev pub invariant-loop-place : goal.invariant-loop-place
invariant-loop-place l = record {
  vars : l.f.vars ≡ l.fn.f.vars;
  var : l.var ≡ 264 + 2 * length (sures (take l.place l.u));
  told : Told (sures (take l.place l.u)) l.before (listed l.above) (listed l.last);
  so_far : l.f.clauses ++ hidden 264 l.class l.in_port l.shape (sures l.u) (drop l.place l.u) ≡ l.fn.f.clauses ++ hidden 264 l.class l.in_port l.shape (sures l.u) l.u;
}
