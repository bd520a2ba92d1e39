use Rattle.mon_turns.proofs.Behind.{barriers-follow}
use Rattle.mon_turns.proofs.laws.barriers_follow.Goals as goal

pub returns : goal.returns
returns c = barriers-follow
