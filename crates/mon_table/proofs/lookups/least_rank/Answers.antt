use Rattle.mon_table.proofs.Looking.{none-hides, least-there, least-on}
use Rattle.mon_table.proofs.lookups.least_rank.Goals as goal

pub returns-in-Some : goal.returns-in-Some
returns-in-Some c =
    least-there c.args.h.now c.in-Some.rank c.args.chunks.now c.loop-chunk.chunk-index c.chunk-item.result c.deref.result.now c.loop-chunk-test.true c.chunk-item.is c.deref.ensures c.in-Some.ensures c.loop-chunk.invariant

pub loop-chunk-preserved : goal.loop-chunk-preserved
loop-chunk-preserved c =
    least-on c.args.h.now c.args.chunks.now c.loop-chunk.chunk-index c.chunk-item.result c.deref.result.now c.loop-chunk-test.true c.chunk-item.is c.deref.ensures
    (none-hides c.args.h.now c.deref.result.now c.hiding_rank_of.result c.hiding_rank_of.ensures c.in_default.not-Some) c.loop-chunk.invariant
