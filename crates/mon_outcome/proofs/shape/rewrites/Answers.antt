use Rattle.std.proofs.Common.{arith}
use Rattle.mon_outcome.proofs.Rewriting.{shapes-left}
use Rattle.mon_outcome.proofs.shape.rewrites.Goals as goal

pub returns-clause-emissions : goal.returns-clause-emissions
returns-clause-emissions c =
    shapes-left c.loop-action.shapes _ c.args.a.now c.loop-action.action-index c.args.class c.args.in_port c.loop-action.bits
    c.loop-action.invariant.0 (omega arith) c.loop-action.invariant.1
