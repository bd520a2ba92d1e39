use Rattle.std.proofs.Common.{◌≡◌, take, true}
use Rattle.mon_cnf.specs.Truth.{formula_true, values_of}
use Rattle.mon_cnf.proofs.truth.holds.Given as goal

-- each clause so far is true
abbrev pub invariant-loop-clause : goal.invariant-loop-clause
invariant-loop-clause l = formula_true (values_of l.values) (take l.clause-index l.clause-items) ≡ true
