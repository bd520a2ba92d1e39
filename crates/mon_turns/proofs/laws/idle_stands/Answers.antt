use Rattle.mon_turns.proofs.Idle.{idle-stands}
use Rattle.mon_turns.proofs.laws.idle_stands.Goals as goal

pub returns : goal.returns
returns c = idle-stands
