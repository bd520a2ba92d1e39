use Rattle.mon_turns.proofs.Unmonitored.{unmonitorable-follow}
use Rattle.mon_turns.proofs.laws.unmonitorable_updates_follow_from_the_order.Goals as goal

pub returns : goal.returns
returns c = unmonitorable-follow
