use Rattle.mon_literals.proofs.Differences.{walk_start}
use Rattle.mon_literals.proofs.differing.differ.Goals as goal

pub loop-i-init : goal.loop-i-init
loop-i-init c = walk_start c.args.a.now c.args.b.now c.laid.result c.laid-others.result c.new-literals.result c.laid.ensures c.laid-others.ensures c.new-literals.ensures
