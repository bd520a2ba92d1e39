use Rattle.mon_refute.proofs.Shown.{reads_end}
use Rattle.mon_refute.proofs.marks.read.Goals as goal

pub returns : goal.returns
returns c known s = reads_end known c.loop-literal.so_far c.args.clause.now c.loop-literal.literal-index c.loop-literal-test.false (c.loop-literal.invariant known s)
