use Rattle.mon_table.proofs.Looking.{normal-read}
use Rattle.mon_table.proofs.lookups.slice.Goals as goal

pub slice_in-requires-clause-normal : goal.slice_in-requires-clause-normal
slice_in-requires-clause-normal c = normal-read c.args.chunks.now c.loop-chunk.chunk-index c.chunk-item.result c.loop-chunk-test.true c.chunk-item.is c.requires
