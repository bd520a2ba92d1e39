use Rattle.mon_plan.proofs.Counting.{counted-all, planned-counts}
use Rattle.mon_plan.proofs.summary.Summary.of.Goals as goal

pub returns-clause-table : goal.returns-clause-table
returns-clause-table c = λ v t certificates. planned-counts v t c.args.c.now _
    (counted-all c.args.c.now _ _ c.loop-certificate.certificate-index _ _ _ c.items-certificate-items.ensures c.items.ensures c.loop-certificate-test.false
    c.loop-certificate.invariant.probes c.loop-certificate.invariant.indistinguishable c.loop-certificate.invariant.overlap) certificates
