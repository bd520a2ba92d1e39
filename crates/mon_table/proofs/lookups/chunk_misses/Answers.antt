use Rattle.mon_table.proofs.Looking.{cover-misses}
use Rattle.mon_table.proofs.lookups.chunk_misses.Goals as goal

pub returns : goal.returns
returns c = cover-misses c.cover.result.now c.args.h.now c.args.chunk.now c.matches.result c.cover.ensures.cover c.matches.ensures c.if-matches.false
