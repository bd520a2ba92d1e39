use Rattle.mon_literals.proofs.Truths.{denied_true, alone_true}
use Rattle.mon_literals.proofs.laws.clauses_of_literals.Goals as goal

pub returns-clause-denied : goal.returns-clause-denied
returns-clause-denied c = denied_true

pub returns-clause-alone : goal.returns-clause-alone
returns-clause-alone c = alone_true
