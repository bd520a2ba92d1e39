use Rattle.mon_turns.proofs.Told.{gates-historys}
use Rattle.mon_turns.proofs.laws.gates_are_those_of_the_history.Goals as goal

pub returns : goal.returns
returns c = gates-historys
