use Rattle.std.proofs.Common.{◌≡◌, take}
use Rattle.std.specs.Prelude.{flat_map}
use Rattle.mon_literals.specs.Clauses.{appended}
use Rattle.mon_literals.specs.Conditions.{asked}
use Rattle.mon_literals.proofs.classes.push_conditions.Given as goal

-- the clauses of the conditions so far are appended
abbrev pub invariant-loop-condition : goal.invariant-loop-condition
invariant-loop-condition l = l.f ≡ appended l.fn.f (flat_map asked (take l.condition-index l.conditions))
