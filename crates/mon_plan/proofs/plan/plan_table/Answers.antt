use Rattle.std.proofs.Common.{arith}
use Rattle.mon_plan.proofs.Sharing.{all_few}
use Rattle.mon_plan.proofs.plan.plan_table.Goals as goal

pub returns-clause-few : goal.returns-clause-few
returns-clause-few g c = all_few _ _ _ _ (omega (arith, c.len.ensures.value, c.len.type_inv)) c.planned.ensures
