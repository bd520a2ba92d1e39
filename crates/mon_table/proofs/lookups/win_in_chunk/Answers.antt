use Rattle.mon_table.proofs.Looking.{cover-wins}
use Rattle.mon_table.proofs.lookups.win_in_chunk.Goals as goal

pub returns : goal.returns
returns c =
    cover-wins c.cover.result.now c.args.h.now c.args.least c.args.before c.args.chunk.now c.args.found.now.items c.matches.result c.cover.ensures.cover c.matches.ensures c.if-matches.false
