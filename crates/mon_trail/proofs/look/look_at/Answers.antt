use Rattle.std.proofs.Common.{subst, take}
use Rattle.mon_trail.specs.Looks.{FirstOpen}
use Rattle.mon_trail.proofs.Looks.{within_at}
use Rattle.mon_trail.proofs.Looking.{look_first}
use Rattle.mon_trail.proofs.look.look_at.Goals as goal

pub loop-literal-preserved-in-None : goal.loop-literal-preserved-in-None
loop-literal-preserved-in-None c =
    look_first c.args.marks.now c.args.clause.now c.loop-literal.literal-index _ c.loop-literal-test.true (within_at _ c.args.clause.now c.loop-literal.literal-index _ c.requires c.loop-literal-test.true) c.in-Free.is
    (subst (FirstOpen c.args.marks.now (take c.loop-literal.literal-index c.args.clause.now)) c.in-None.is c.loop-literal.invariant)
