use Rattle.mon_session.proofs.There.{updates-are-there}
use Rattle.mon_session.proofs.laws.updates_are_there.Goals as goal

pub returns : goal.returns
returns c = updates-are-there
