use Rattle.std.proofs.Common.{ap, ◌∙◌, ◌∷◌, ◌++◌, [], List, arith}
use Rattle.mon_cnf.specs.declared.clause.Lit.{Lit}
use Rattle.mon_encode.specs.Clauses.{sures}
use Rattle.mon_encode.proofs.Above.{matched-some}
use Rattle.mon_encode.proofs.hidden.matched.Goals as goal

pub returns-clause-value : goal.returns-clause-value
returns-clause-value c =
    c.in_ok-push.ensures.pushed
    ∙ (ap (λ (ls : List Lit). ls ++ c.true_at.result ∷ []) c.new-clause.ensures ∙ matched-some c.args.vars (sures c.args.u.now) c.true_at.result c.requires (omega arith) c.true_at.ensures)
