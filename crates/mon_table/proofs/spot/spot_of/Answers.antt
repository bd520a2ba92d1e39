use Rattle.std.proofs.Common.{◌∙◌}
use Rattle.mon_table.specs.Rules.{Identity}
use Rattle.mon_table.proofs.Seeking.{read-chunk, read-order, spot-is}
use Rattle.mon_table.proofs.spot.spot_of.Goals as goal

pub search-place-requires : goal.search-place-requires
search-place-requires c =
    read-order c.args.chunks.now c.chunk_around-chunk.result c.index-chunks-chunk.result c.rules-rules.result.now c.requires.table.order c.chunk_around-chunk.ensures.within c.index-chunks-chunk.is
    (c.rules-rules.ensures.rules ∙ c.deref.ensures)

pub returns-clause-spot : goal.returns-clause-spot
returns-clause-spot c =
    let i : Identity = record { rank = c.args.rank; matching = c.args.m.now } in
    let cs = c.args.chunks.now in
    spot-is i cs c.chunk_around-chunk.result c.search-place.result c.rules-rules.result.now c.stands_at-found.result c.chunk_around-chunk.ensures
    (read-chunk cs c.chunk_around-chunk.result c.index-chunks-chunk.result c.rules-rules.result.now c.chunk_around-chunk.ensures.within c.index-chunks-chunk.is (c.rules-rules.ensures.rules ∙ c.deref.ensures))
    c.search-place.ensures.value c.search-place.ensures.within c.stands_at-found.ensures.value c.stands_at-found.ensures.within
