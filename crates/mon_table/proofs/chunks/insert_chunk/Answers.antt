use Rattle.std.proofs.Common.{◌∙◌, ap}
use Rattle.mon_table.specs.Chunks.{rules_of}
use Rattle.mon_table.proofs.Parting.{insert-one}
use Rattle.mon_table.proofs.chunks.insert_chunk.Goals as goal

pub returns-clause-rules : goal.returns-clause-rules
returns-clause-rules c =
    ap rules_of c.in_ok-insert.ensures.items ∙ insert-one c.args.chunks.now.items c.args.at c.in_ok-chunk.chunk c.args.rule (c.in_ok-chunk.ensures.ok ∙ c.in_ok-of.ensures)
