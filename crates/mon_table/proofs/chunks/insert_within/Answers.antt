use Rattle.std.proofs.Common.{◌<◌, ◌≤◌, List, length, subst}
use Rattle.mon_table.specs.declared.rule.Rule.{Rule}
use Rattle.mon_table.proofs.Parting.{Changed, changed-is, on-insert, on-same}
use Rattle.mon_table.proofs.chunks.insert_within.Goals as goal

pub insert-requires-clause-place : goal.insert-requires-clause-place
insert-requires-clause-place c =
    let h : Changed c.args.chunks.now.items c.args.at c.index_mut.result.now = record { within = c.requires.chunk; read = c.index_mut.ensures.value } in
    subst (λ (t : List Rule). c.args.place ≤ length t) (changed-is c.args.chunks.now.items c.args.at c.index_mut.result.now h) c.requires.place

pub insert-requires-clause-room : goal.insert-requires-clause-room
insert-requires-clause-room c =
    let h : Changed c.args.chunks.now.items c.args.at c.index_mut.result.now = record { within = c.requires.chunk; read = c.index_mut.ensures.value } in
    subst (λ (t : List Rule). length t < 64) (changed-is c.args.chunks.now.items c.args.at c.index_mut.result.now h) c.requires.room

pub returns-clause-rules : goal.returns-clause-rules
returns-clause-rules c =
    let h : Changed c.args.chunks.now.items c.args.at c.index_mut.result.now = record { within = c.requires.chunk; read = c.index_mut.ensures.value } in
    on-insert c.args.chunks.now.items c.args.at c.index_mut.result.now c.insert.new.shared h c.insert.result c.args.place c.args.rule c.requires.place c.insert.ensures.put

pub returns-clause-same : goal.returns-clause-same
returns-clause-same c =
    let h : Changed c.args.chunks.now.items c.args.at c.index_mut.result.now = record { within = c.requires.chunk; read = c.index_mut.ensures.value } in
    on-same c.args.chunks.now.items c.args.at c.index_mut.result.now c.insert.new.shared h c.insert.result c.insert.ensures.same
