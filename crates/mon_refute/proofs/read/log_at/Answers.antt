use Rattle.mon_refute.proofs.Leaving.{count_bad, log_only, log_stops}
use Rattle.mon_refute.proofs.read.log_at.Goals as goal

pub returns-in_default-clause-stops : goal.returns-in_default-clause-stops
returns-in_default-clause-stops c = count_bad c.args.bytes.now c.in_default.ensures

pub returns-clause-only : goal.returns-clause-only
returns-clause-only c = log_only c.args.bytes.now c.in-Some.rest.now c.in-Some.count c.lines_at.result c.in-Some.ensures c.lines_at.ensures

pub returns-clause-stops : goal.returns-clause-stops
returns-clause-stops c = log_stops c.args.bytes.now c.in-Some.rest.now c.in-Some.count c.lines_at.result c.in-Some.ensures c.lines_at.ensures
