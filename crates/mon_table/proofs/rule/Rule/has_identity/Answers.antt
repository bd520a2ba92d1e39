use Rattle.std.proofs.Common.{sym, ◌∙◌}
use Rattle.mon_table.proofs.Identities.{same_identity-from}
use Rattle.mon_table.proofs.rule.Rule.has_identity.Goals as goal

pub returns-then-rank : goal.returns-then-rank
returns-then-rank c = same_identity-from _ _ _ (sym c.rank.ensures ∙ c.if-rank.true) c.same_match.ensures
