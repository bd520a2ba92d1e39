use Rattle.std.proofs.Common.{arith}
use Rattle.mon_literals.proofs.Running.{run_step}
use Rattle.mon_literals.proofs.run.push_run.Goals as goal

pub loop-i-preserved : goal.loop-i-preserved
loop-i-preserved c =
    run_step c.args.positive c.loop-i.literals _ c.push.new.self c.args.run.start c.args.run.count c.args.run.number c.loop-i.i
    _ _ c.loop-i-test.true c.in_ok-push.ensures.pushed (omega arith) c.has_bit.ensures c.loop-i.invariant
