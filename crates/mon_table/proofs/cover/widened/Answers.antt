use Rattle.std.proofs.Common.{ap, ◌∙◌}
use Rattle.mon_header.specs.Wild.{unpacked}
use Rattle.mon_header.specs.Matching.{normal}
use Rattle.mon_table.proofs.Covering.{made-first, made-second}
use Rattle.mon_table.proofs.cover.widened.Goals as goal

pub returns-clause-first : goal.returns-clause-first
returns-clause-first c =
    made-first c.apart.result c.args.a.now c.args.b.now c.normal.result c.pack.result c.apart.ensures c.keeps.ensures c.pack.ensures (c.normal.ensures.value ∙ ap (normal (unpacked c.pack.result)) c.fields.ensures.value)

pub returns-clause-second : goal.returns-clause-second
returns-clause-second c =
    made-second c.apart.result c.args.a.now c.args.b.now c.normal.result c.pack.result c.apart.ensures c.keeps.ensures c.pack.ensures (c.normal.ensures.value ∙ ap (normal (unpacked c.pack.result)) c.fields.ensures.value)
