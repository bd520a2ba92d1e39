use Rattle.mon_table.proofs.Tabling.{kept-replaced, kept-added}
use Rattle.mon_table.proofs.table.Table.put.Goals as goal

pub invariant_of-self-in-Some : goal.invariant_of-self-in-Some
invariant_of-self-in-Some c =
    let p = c.in_ok-old.ensures in
    kept-replaced c.args.rule c.in_ok-old.field-0 c.in-Some.old c.self.inside.chunks.items c.put.new.chunks.items c.self.inside.count c.in-Some.is c.self.invariant p.normal p.fit p.put p.none_empty

pub invariant_of-self-in-None : goal.invariant_of-self-in-None
invariant_of-self-in-None c =
    let p = c.in_ok-old.ensures in
    kept-added c.args.rule c.in_ok-old.field-0 c.self.inside.chunks.items c.put.new.chunks.items c.self.inside.count c.in-None.is c.self.invariant p.normal p.fit p.put p.few p.none_empty
