use Rattle.mon_table.specs.Rules.{Identity}
use Rattle.mon_table.proofs.Tabling.{kept-taken, kept-left}
use Rattle.mon_table.proofs.table.Table.cut.Goals as goal

pub invariant_of-self-in-Some : goal.invariant_of-self-in-Some
invariant_of-self-in-Some c =
    let i : Identity = record { rank = c.effective.result; matching = c.args.m.now } in
    kept-taken i c.in_ok-old.field-0 c.in-Some.old c.self.inside.chunks.items c.cut.new.chunks.items c.self.inside.count c.in-Some.is c.self.invariant c.in_ok-old.ensures.cut c.in_ok-old.ensures.none_empty

pub invariant_of-self-in-None : goal.invariant_of-self-in-None
invariant_of-self-in-None c =
    let i : Identity = record { rank = c.effective.result; matching = c.args.m.now } in
    kept-left i c.in_ok-old.field-0 c.self.inside.chunks.items c.cut.new.chunks.items c.self.inside.count c.in-None.is c.self.invariant c.in_ok-old.ensures.cut c.in_ok-old.ensures.none_empty
