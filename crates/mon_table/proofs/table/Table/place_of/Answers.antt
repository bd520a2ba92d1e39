use Rattle.mon_table.specs.Rules.{Identity}
use Rattle.mon_table.proofs.Tabling.{place-within}
use Rattle.mon_table.proofs.table.Table.place_of.Goals as goal

pub returns-in-Some-clause-within : goal.returns-in-Some-clause-within
returns-in-Some-clause-within c =
    let s = c.in-Some.spot in
    let i : Identity = record { rank = c.effective.result; matching = c.args.m.now } in
    place-within i c.self.inside.chunks.items c.deref-in-Some.result.now c.deref.result.now c.args.self.now s.chunk s.place c.place_in.result s.found c.place_in.ensures c.deref-in-Some.ensures.value c.deref.ensures.value
    c.in-Some.ensures.spot c.self.view_is
