use Rattle.mon_table.proofs.Tabling.{place-is-there, place-is-missing}
use Rattle.mon_table.proofs.table.Table.place.Goals as goal

pub returns-then-spot : goal.returns-then-spot
returns-then-spot c =
    let s = c.in-Some.spot in
    place-is-there c.effective.result c.args.m.now c.args.priority c.self.inside.chunks.items c.deref.result.now c.deref-then-spot.result.now c.args.self.now s.chunk s.place c.place_in.result s.found
    c.self.invariant.table c.effective.ensures c.deref.ensures.value c.deref-then-spot.ensures.value c.in-Some.ensures.spot c.if-spot.true c.place_in.ensures c.self.view_is

pub returns : goal.returns
returns c =
    let s = c.in-Some.spot in
    place-is-missing c.effective.result c.args.m.now c.args.priority c.self.inside.chunks.items c.deref.result.now c.args.self.now s.chunk s.place s.found
    c.self.invariant.table c.keeps.ensures c.effective.ensures c.deref.ensures.value c.in-Some.ensures.spot c.if-spot.false c.self.view_is
