use Rattle.mon_plan.proofs.Planning.{answered-certificate}
use Rattle.mon_plan.proofs.Ranging.{answered-range}
use Rattle.mon_plan.proofs.job.certificate_of.Goals as goal

pub returns-clause-certificate : goal.returns-clause-certificate
returns-clause-certificate c = answered-certificate c.args.v.now c.args.t.now c.args.rule.now _ _ c.requires.table c.requires.there c.in_ok-job.ensures
    c.certificate.ensures.accepted c.certificate.ensures.truth c.certificate.ensures.kind

pub returns-clause-range : goal.returns-clause-range
returns-clause-range c = answered-range c.args.v.now c.args.t.now c.args.rule.now _ c.requires.table c.requires.there c.keeps.ensures.fit (returns-clause-certificate c)
