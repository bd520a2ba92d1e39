use Rattle.mon_refute.proofs.Places.{within_later}
use Rattle.mon_trail.proofs.Naming.{lines_within}
use Rattle.mon_trail.proofs.clauses.clause_of.Goals as goal

pub returns-then-later-log-clause-within : goal.returns-then-later-log-clause-within
returns-then-later-log-clause-within c a = within_later _ c.args.log.now _ _ _ (lines_within _ _ c.args.log.now a) c.if-later-log.true c.items-then-later-log.ensures
