use Rattle.mon_plan.proofs.Planning.{watch-asks}
use Rattle.mon_plan.proofs.job.job.Goals as goal

pub invariant_of-result : goal.invariant_of-result
invariant_of-result c = watch-asks c.args.t.now _ c.args.rule.now _ c.requires c.in_ok-table.ensures c.in_ok-rule.ensures
