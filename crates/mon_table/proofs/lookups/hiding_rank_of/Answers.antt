use Rattle.mon_table.proofs.Looking.{cover-hides}
use Rattle.mon_table.proofs.lookups.hiding_rank_of.Goals as goal

pub returns : goal.returns
returns c = cover-hides c.cover.result.now c.args.h.now c.args.chunk.now c.matches.result c.cover.ensures.cover c.matches.ensures c.if-matches.false
