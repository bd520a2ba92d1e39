use Rattle.mon_turns.proofs.Events.{events-are-lawful}
use Rattle.mon_turns.proofs.laws.events_are_lawful.Goals as goal

pub returns : goal.returns
returns c = events-are-lawful
