use Rattle.mon_plan.proofs.Planning.{has-rule}
use Rattle.mon_plan.proofs.job.job_at.Goals as goal

pub job-requires : goal.job-requires
job-requires c = has-rule c.args.t.now c.args.place _ c.requires c.rule.ensures
