use Rattle.std.proofs.Common.{◌∙◌}
use Rattle.mon_table.proofs.Looking.{counted}
use Rattle.mon_table.proofs.lookups.count.Goals as goal

pub loop-chunk-preserved : goal.loop-chunk-preserved
loop-chunk-preserved c =
    counted c.args.chunks.now c.loop-chunk.chunk-index c.loop-chunk.count c.chunk-item.result c.rules.result.now c.loop-chunk-test.true c.chunk-item.is (c.rules.ensures.rules ∙ c.deref.ensures) c.loop-chunk.invariant
