use Rattle.mon_plan.proofs.Sharing.{first-lacks}
use Rattle.mon_plan.proofs.plan.take_next.Goals as goal

pub returns-in_default-next : goal.returns-in_default-next
returns-in_default-next c = first-lacks _ _ _ c.in-Some.ensures.items c.in_default-next.ensures
