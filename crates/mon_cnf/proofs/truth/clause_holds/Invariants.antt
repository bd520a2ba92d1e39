use Rattle.std.proofs.Common.{◌≡◌, take, false}
use Rattle.mon_cnf.specs.Truth.{clause_true, values_of}
use Rattle.mon_cnf.proofs.truth.clause_holds.Given as goal

-- no literal so far is true
abbrev pub invariant-loop-literal : goal.invariant-loop-literal
invariant-loop-literal l = clause_true (values_of l.values) (take l.literal-index l.clause) ≡ false
