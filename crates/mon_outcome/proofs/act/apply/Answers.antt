use Rattle.std.proofs.Common.{arith}
use Rattle.mon_outcome.proofs.Classes.{applied-some}
use Rattle.mon_outcome.proofs.act.apply.Goals as goal

pub returns-clause-class : goal.returns-clause-class
returns-clause-class c =
    applied-some _ c.args.a.now c.loop-action.action-index c.args.h.now c.loop-action.header c.items-action-items.ensures.fit
    c.loop-action.invariant.0 (omega arith) c.loop-action.invariant.1
