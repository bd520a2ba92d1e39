use Rattle.mon_table.specs.Rules.{Identity}
use Rattle.mon_table.proofs.Changing.{spot-here, cut-found, cut-missing}
use Rattle.mon_table.proofs.changes.cut.Goals as goal

pub returns-clause-cut : goal.returns-clause-cut
returns-clause-cut c =
    let i : Identity = record { rank = c.args.rank; matching = c.args.m.now } in
    let cs = c.args.chunks.now.items in
    let s = c.in-Some.spot in
    cut-missing i cs s.chunk s.place s.found c.requires.table c.keeps.ensures (spot-here i cs c.deref.result.now s.chunk s.place s.found c.deref.ensures.value c.in-Some.ensures.spot) c.if-spot.false

pub returns-then-spot-clause-cut : goal.returns-then-spot-clause-cut
returns-then-spot-clause-cut c =
    let i : Identity = record { rank = c.args.rank; matching = c.args.m.now } in
    let cs = c.args.chunks.now.items in
    let s = c.in-Some.spot in
    cut-found i c.in_ok-old.old cs c.remove_at.new.chunks.items s.chunk s.place s.found c.requires.table (spot-here i cs c.deref.result.now s.chunk s.place s.found c.deref.ensures.value c.in-Some.ensures.spot) c.if-spot.true
    c.in_ok-old.ensures.rules c.in_ok-old.ensures.old
