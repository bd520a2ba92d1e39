use Rattle.std.proofs.Common.{◌≡◌, ◌++◌, drop, false}
use Rattle.mon_encode.specs.Clauses.{sures}
use Rattle.mon_encode.specs.Formulas.{helpers}
use Rattle.mon_encode.proofs.decoding.push_helpers.Given as goal

abbrev pub invariant-loop-place : goal.invariant-loop-place
invariant-loop-place l = l.values ++ helpers l.h l.seen (sures (drop l.place l.u)) ≡ l.fn.values ++ helpers l.h false (sures l.u)
