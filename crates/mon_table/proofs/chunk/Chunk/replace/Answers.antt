use Rattle.std.proofs.Common.{ap, set, ◌∙◌}
use Rattle.mon_table.proofs.Chunking.{cover-replaced, set-length}
use Rattle.mon_table.proofs.chunk.Chunk.replace.Goals as goal

pub invariant_of-self : goal.invariant_of-self
invariant_of-self c =
    let t = c.self.inside.rules.items in
    let l = set-length t c.args.self.now c.args.place c.replace.new.dest c.self.view_is c.self.invariant.1 c.self.invariant.2 in (
      cover-replaced c.self.inside.cover c.joined-self-inside.result t c.args.place c.args.rule c.replace.new.dest c.replace.ensures.after c.joined-self-inside.ensures.first c.joined-self-inside.ensures.second c.self.invariant.0,
      l.0,
      l.1,
    )

pub returns-clause-rules : goal.returns-clause-rules
returns-clause-rules c = ap (set c.self.inside.rules.items c.args.place) c.replace.ensures.after ∙ ap (λ t. set t c.args.place c.args.rule) c.self.view_is
