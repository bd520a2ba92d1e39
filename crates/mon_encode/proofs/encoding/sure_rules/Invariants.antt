use Rattle.std.proofs.Common.{◌≡◌, ◌+◌, ◌≤◌, drop, length}
use Rattle.mon_encode.specs.Clauses.{sures}
use Rattle.mon_encode.proofs.encoding.sure_rules.Given as goal

abbrev pub invariant-loop-place : goal.invariant-loop-place
invariant-loop-place l = record {
  counted : l.sure + length (sures (drop l.place l.u)) ≡ length (sures l.u);
  low : l.sure ≤ l.place;
}
