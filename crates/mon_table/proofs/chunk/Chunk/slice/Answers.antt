use Rattle.std.proofs.Common.{◌∙◌, ap, rules}
use Rattle.mon_table.specs.Tables.{slice}
use Rattle.mon_table.proofs.Chunking.{cover-slice, slice-few}
use Rattle.mon_table.proofs.chunk.Chunk.slice.Goals as goal

pub invariant_of-result : goal.invariant_of-result
invariant_of-result c =
    let t = c.self.inside.rules.items in
    let is = c.in_ok-rules.ensures ∙ ap (slice c.args.m.now) c.deref.ensures.value in (
      cover-slice c.self.inside.cover c.args.m.now t c.in_ok-rules.rules.items is c.self.invariant.0,
      search rules,
      slice-few c.args.m.now t c.in_ok-rules.rules.items is c.self.invariant.2,
    )
