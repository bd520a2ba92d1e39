use Rattle.std.proofs.Common.{◌≡◌, take}
use Rattle.mon_literals.specs.Clauses.{alone, appended}
use Rattle.mon_literals.proofs.clauses.push_alone.Given as goal

-- the clauses of the literals so far are appended
abbrev pub invariant-loop-literal : goal.invariant-loop-literal
invariant-loop-literal l = l.f ≡ appended l.fn.f (alone (take l.literal-index l.literals))
