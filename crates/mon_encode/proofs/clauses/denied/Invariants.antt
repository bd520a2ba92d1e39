use Rattle.std.proofs.Common.{◌≡◌, take}
use Rattle.mon_literals.specs.Clauses.{denied}
use Rattle.mon_encode.proofs.clauses.denied.Given as goal

abbrev pub invariant-loop-literal : goal.invariant-loop-literal
invariant-loop-literal l = l.clause ≡ denied (take l.literal-index l.literals)
