use Rattle.mon_turns.proofs.Lasts.{sessions-follow}
use Rattle.mon_turns.proofs.laws.sessions_follow_from_the_order.Goals as goal

pub returns : goal.returns
returns c = sessions-follow
