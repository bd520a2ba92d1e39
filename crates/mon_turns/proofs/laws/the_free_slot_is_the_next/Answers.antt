use Rattle.mon_turns.proofs.Taken.{free-same}
use Rattle.mon_turns.proofs.laws.the_free_slot_is_the_next.Goals as goal

pub returns : goal.returns
returns c = free-same
