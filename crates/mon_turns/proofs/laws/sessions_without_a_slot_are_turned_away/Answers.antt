use Rattle.mon_turns.proofs.Away.{turned-away}
use Rattle.mon_turns.proofs.laws.sessions_without_a_slot_are_turned_away.Goals as goal

pub returns : goal.returns
returns c = turned-away
