use Rattle.mon_literals.proofs.Apart.{differing_true, never_same}
use Rattle.mon_literals.proofs.laws.clauses_that_differ.Goals as goal

pub returns-clause-sometimes : goal.returns-clause-sometimes
returns-clause-sometimes c = differing_true

pub returns-clause-always : goal.returns-clause-always
returns-clause-always c = never_same
