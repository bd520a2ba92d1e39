use Rattle.mon_turns.proofs.Settling.{settlings-follow}
use Rattle.mon_turns.proofs.laws.settlings_follow_from_the_order.Goals as goal

pub returns : goal.returns
returns c = settlings-follow
