use Rattle.mon_plan.proofs.Planning.{answered-if}
use Rattle.mon_plan.proofs.job.accepts.Goals as goal

pub returns-clause-truth : goal.returns-clause-truth
returns-clause-truth c = answered-if c.args.v.now c.args.t.now c.args.rule.now _ _ _ c.requires.table c.requires.there c.in_ok-job.ensures c.accept.ensures.truth
