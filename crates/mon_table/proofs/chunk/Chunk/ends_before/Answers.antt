use Rattle.std.proofs.Common.{◌∙◌, ap, arith}
use Rattle.mon_table.specs.Rules.{Identity}
use Rattle.mon_table.specs.Chunks.{ends_before}
use Rattle.mon_table.proofs.Chunking.{ends-is}
use Rattle.mon_table.proofs.chunk.Chunk.ends_before.Goals as goal

pub returns : goal.returns
returns c =
    let i : Identity = record { rank = c.args.rank; matching = c.args.m.now } in
    c.comes_before.ensures ∙ (ends-is i c.self.inside.rules.items _ c.index.result.now c.self.invariant.1 (omega (arith, c.len.ensures)) c.index.ensures ∙ ap (ends_before i) c.self.view_is)
