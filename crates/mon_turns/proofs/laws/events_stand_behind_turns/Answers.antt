use Rattle.mon_turns.proofs.Givens.{given-stand}
use Rattle.mon_turns.proofs.laws.events_stand_behind_turns.Goals as goal

pub returns : goal.returns
returns c = given-stand
