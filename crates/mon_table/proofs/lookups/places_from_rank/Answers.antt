use Rattle.std.proofs.Common.{◌∙◌, ◌<◌, ◌++◌, sym, subst, arith, ap, length}
use Rattle.mon_table.specs.Tables.{places, places_from}
use Rattle.mon_table.specs.Places.{is_from_rank}
use Rattle.mon_table.specs.Chunks.{rules_of}
use Rattle.mon_table.proofs.Looking.{counted, places-on, places-low}
use Rattle.mon_table.proofs.lookups.places_from_rank.Goals as goal

pub returns-then-rank-least : goal.returns-then-rank-least
returns-then-rank-least c =
    let cs = c.args.chunks.now in
    places-low c.args.h.now c.args.least cs c.loop-chunk.chunk-index c.loop-chunk.before c.chunk-item.result c.rules-rules.result.now c.index-rules-0.result c.loop-chunk.found.items (places (is_from_rank c.args.h.now c.args.least) (rules_of cs))
    c.requires.order c.loop-chunk-test.true c.chunk-item.is (c.rules-rules.ensures.rules ∙ c.deref.ensures) (subst (λ t. 0 < length t) (sym c.rules-rules.ensures.rules) c.rules-rules.ensures.some) c.index-rules-0.is
    (omega (arith, c.rank.ensures, c.if-rank-least.true)) c.loop-chunk.invariant.0

pub loop-chunk-preserved : goal.loop-chunk-preserved
loop-chunk-preserved c =
    let cs = c.args.chunks.now in
    let p = is_from_rank c.args.h.now c.args.least in
    let is = c.rules-rules.ensures.rules ∙ c.deref.ensures in (
      places-on p cs c.loop-chunk.chunk-index c.loop-chunk.before c.chunk-item.result c.rules-rules.result.now c.loop-chunk.found.items c.win_in_chunk.new.found.items (places p (rules_of cs))
          c.loop-chunk-test.true c.chunk-item.is is (c.in_ok-win_in_chunk.ensures ∙ ap (λ t. c.loop-chunk.found.items ++ places_from c.loop-chunk.before p t) (c.deref-in-loop-chunk.ensures ∙ sym is)) c.loop-chunk.invariant.0,
      counted cs c.loop-chunk.chunk-index c.loop-chunk.before c.chunk-item.result c.rules-rules.result.now c.loop-chunk-test.true c.chunk-item.is is c.loop-chunk.invariant.1,
    )
