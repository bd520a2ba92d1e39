use Rattle.std.proofs.Common.{◌≡◌, take, map, ◌∷◌, []}
use Rattle.mon_cnf.specs.declared.clause.Lit.{Lit}
use Rattle.mon_literals.specs.Clauses.{appended}
use Rattle.mon_encode.specs.Clauses.{false_at}
use Rattle.mon_encode.proofs.chain.push_implied.Given as goal

abbrev pub invariant-loop-literal : goal.invariant-loop-literal
invariant-loop-literal l = l.f ≡ appended l.fn.f (map (λ (x : Lit). false_at l.var ∷ x ∷ []) (take l.literal-index l.literals))
