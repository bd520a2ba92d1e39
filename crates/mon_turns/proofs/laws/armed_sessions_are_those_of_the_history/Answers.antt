use Rattle.mon_turns.proofs.Told.{armed-historys}
use Rattle.mon_turns.proofs.laws.armed_sessions_are_those_of_the_history.Goals as goal

pub returns : goal.returns
returns c = armed-historys
