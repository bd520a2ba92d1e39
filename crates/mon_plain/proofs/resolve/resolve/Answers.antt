use Rattle.std.proofs.Common.{◌∙◌, ap, ◌++◌, ◌∷◌, []}
use Rattle.mon_refute.specs.Follow.{literals_of}
use Rattle.mon_plain.proofs.Joins.{resolved_from}
use Rattle.mon_plain.proofs.resolve.resolve.Goals as goal

pub returns : goal.returns
returns c = (
  c.in_ok-push-2.ensures.pushed ∙ ap (λ h. h ++ (c.args.second ∷ [])) (c.in_ok-push.ensures.pushed ∙ ap (λ h. h ++ (c.args.first ∷ [])) c.new-hints.ensures),
  resolved_from (c.args.f.now.clauses ++ literals_of c.args.log.now) c.args.first c.args.second c.args.var c.new-literals.result c.join.new.out c.join-2.new.out
      c.clause_at.result.now c.clause_at-2.result.now c.new-literals.ensures c.clause_at.ensures c.clause_at-2.ensures c.in_ok-join.ensures c.in_ok-join-2.ensures,
)
