use Rattle.mon_turns.proofs.Staying.{open-stays}
use Rattle.mon_turns.proofs.laws.sessions_are_open_until_their_end.Goals as goal

pub returns : goal.returns
returns c = open-stays
