use Rattle.std.proofs.Common.{◌≡◌, ◌++◌, drop}
use Rattle.mon_encode.specs.Clauses.{beaten}
use Rattle.mon_encode.proofs.winning.push_beaten.Given as goal

abbrev pub invariant-loop-place : goal.invariant-loop-place
invariant-loop-place l = record {
  vars : l.f.vars ≡ l.fn.f.vars;
  so_far : l.f.clauses ++ beaten l.winner l.least l.place (drop l.place l.t) ≡ l.fn.f.clauses ++ beaten l.winner l.least 0 l.t;
}
