use Rattle.mon_table.proofs.Looking.{cover-left}
use Rattle.mon_table.proofs.lookups.is_apart.Goals as goal

pub returns : goal.returns
returns c = λ y. cover-left c.cover.result.now c.args.m.now c.args.chunk.now c.overlaps.result c.keeps.ensures c.cover.ensures.normal c.requires c.cover.ensures.cover c.overlaps.ensures y
