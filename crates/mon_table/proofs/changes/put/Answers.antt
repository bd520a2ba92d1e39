use Rattle.mon_table.proofs.Changing.{spot-turned, put-found, put-missing}
use Rattle.mon_table.proofs.changes.put.Goals as goal

pub returns-then-spot-clause-put : goal.returns-then-spot-clause-put
returns-then-spot-clause-put c =
    let r = c.args.rule in
    let cs = c.args.chunks.now.items in
    let s = c.in-Some.spot in
    put-found r c.in_ok-old.old cs c.replace_at.new.chunks.items s.chunk s.place s.found c.requires.kept.table
    (spot-turned c.rank-rank.result r.matching r.priority cs c.deref.result.now s.chunk s.place s.found c.rank-rank.ensures c.deref.ensures.value c.in-Some.ensures.spot) c.if-spot.true
    c.in_ok-old.ensures.rules c.in_ok-old.ensures.old

pub returns-clause-put : goal.returns-clause-put
returns-clause-put c =
    let r = c.args.rule in
    let cs = c.args.chunks.now.items in
    let s = c.in-Some.spot in
    put-missing r cs c.insert_at.new.chunks.items s.chunk s.place s.found c.requires.kept.table c.keeps.ensures.normal
    (spot-turned c.rank-rank.result r.matching r.priority cs c.deref.result.now s.chunk s.place s.found c.rank-rank.ensures c.deref.ensures.value c.in-Some.ensures.spot) c.if-spot.false
    c.in_ok-insert_at.ensures.rules
