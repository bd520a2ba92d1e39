use Rattle.mon_turns.proofs.Taken.{slotted}
use Rattle.mon_turns.proofs.laws.open_sessions_have_slots.Goals as goal

pub returns : goal.returns
returns c = slotted
