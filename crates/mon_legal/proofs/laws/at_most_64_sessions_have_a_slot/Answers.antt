use Rattle.mon_legal.proofs.Slots.{few-open}
use Rattle.mon_legal.proofs.laws.at_most_64_sessions_have_a_slot.Goals as goal

pub returns : goal.returns
returns c = few-open
