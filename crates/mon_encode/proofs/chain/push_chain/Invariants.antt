use Rattle.std.proofs.Common.{◌≡◌, ◌+◌, ◌*◌, ◌++◌, drop, [], length}
use Rattle.mon_cnf.specs.Truth.{Within}
use Rattle.mon_encode.specs.Clauses.{sures, chain, listed}
use Rattle.mon_encode.proofs.chain.push_chain.Given as goal

abbrev pub invariant-loop-place : goal.invariant-loop-place
invariant-loop-place l = record {
  vars : l.f.vars ≡ l.fn.f.vars;
  room : l.var + 2 * length (sures (drop l.place l.u)) ≡ 264 + 2 * length (sures l.u);
  within : Within l.fn.f.vars (listed l.earlier);
  so_far : l.f.clauses ++ chain l.var (listed l.earlier) (sures (drop l.place l.u)) ≡ l.fn.f.clauses ++ chain 264 [] (sures l.u);
}
