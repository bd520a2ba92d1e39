use Rattle.mon_shows.proofs.Showing.{with-shown, without-hidden}
use Rattle.mon_shows.proofs.laws.what_separates_does_whichever_rules_are_gone.Goals as goal

pub returns-clause-with_it : goal.returns-clause-with_it
returns-clause-with_it c = with-shown

pub returns-clause-without_it : goal.returns-clause-without_it
returns-clause-without_it c = without-hidden
