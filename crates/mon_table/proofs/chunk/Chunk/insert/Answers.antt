use Rattle.mon_table.proofs.Chunking.{cover-insert, insert-length}
use Rattle.mon_table.proofs.chunk.Chunk.insert.Goals as goal

pub invariant_of-self-2 : goal.invariant_of-self-2
invariant_of-self-2 c =
    let t = c.self.inside.rules.items in
    let r = c.args.rule in
    let l = insert-length t c.args.self.now c.insert.new.self.items c.args.place r c.in_ok-insert.ensures.items c.self.view_is c.requires.place c.requires.room in (
      cover-insert c.self.inside.cover c.joined-cover.result t c.insert.new.self.items c.args.place r c.in_ok-insert.ensures.items c.joined-cover.ensures.first c.joined-cover.ensures.second c.self.invariant.0,
      l.0,
      l.1,
    )
