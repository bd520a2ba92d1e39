use Rattle.mon_plan.proofs.Checking.{planned-accepted}
use Rattle.mon_plan.proofs.laws.a_plan_is_accepted.Goals as goal

pub returns : goal.returns
returns c = planned-accepted
