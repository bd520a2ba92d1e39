use Rattle.mon_table.proofs.Identities.{same_identity-from}
use Rattle.mon_session.proofs.name.same.Goals as goal

pub returns-then-rank-other : goal.returns-then-rank-other
returns-then-rank-other c = same_identity-from _ _ _ c.if-rank-other.true c.same_match.ensures
