use Rattle.std.proofs.Common.{◌∙◌}
use Rattle.mon_table.specs.Tables.{is_named, places}
use Rattle.mon_table.specs.Chunks.{rules_of}
use Rattle.mon_table.proofs.Looking.{counted, places-on}
use Rattle.mon_table.proofs.lookups.named.Goals as goal

pub loop-chunk-preserved : goal.loop-chunk-preserved
loop-chunk-preserved c =
    let cs = c.args.chunks.now in
    let is = c.rules-rules.ensures.rules ∙ c.deref.ensures in (
      places-on (is_named c.args.m.now) cs c.loop-chunk.chunk-index c.loop-chunk.before c.chunk-item.result c.rules-rules.result.now c.loop-chunk.named.items c.name_in.new.named.items (places (is_named c.args.m.now) (rules_of cs))
          c.loop-chunk-test.true c.chunk-item.is is c.in_ok-name_in.ensures c.loop-chunk.invariant.0,
      counted cs c.loop-chunk.chunk-index c.loop-chunk.before c.chunk-item.result c.rules-rules.result.now c.loop-chunk-test.true c.chunk-item.is is c.loop-chunk.invariant.1,
    )
