use Rattle.std.proofs.Common.{◌<◌, List, length, subst}
use Rattle.mon_table.specs.declared.rule.Rule.{Rule}
use Rattle.mon_table.proofs.Parting.{Changed, changed-is, on-remove, on-same, on-old, removed-some, more-there}
use Rattle.mon_table.proofs.chunks.remove_at.Goals as goal

pub remove-requires-clause-place : goal.remove-requires-clause-place
remove-requires-clause-place c =
    let h : Changed c.args.chunks.now.items c.args.at c.index_mut.result.now = record { within = c.requires.chunk; read = c.index_mut.ensures.value } in
    subst (λ (t : List Rule). c.args.place < length t) (changed-is c.args.chunks.now.items c.args.at c.index_mut.result.now h) c.requires.place

pub remove-requires-clause-more : goal.remove-requires-clause-more
remove-requires-clause-more c =
    let h : Changed c.args.chunks.now.items c.args.at c.index_mut.result.now = record { within = c.requires.chunk; read = c.index_mut.ensures.value } in
    more-there c.args.chunks.now.items c.deref.result.now c.args.at c.args.place c.len_at.result c.index_mut.result.now h c.deref.ensures.value c.requires.place c.len_at.ensures.len c.if-len_at-eq1.false

pub returns-clause-rules : goal.returns-clause-rules
returns-clause-rules c =
    let h : Changed c.args.chunks.now.items c.args.at c.index_mut.result.now = record { within = c.requires.chunk; read = c.index_mut.ensures.value } in
    on-remove c.args.chunks.now.items c.args.at c.index_mut.result.now c.remove.new.shared h c.remove.result c.args.place c.requires.place c.remove.ensures.rules

pub returns-clause-old : goal.returns-clause-old
returns-clause-old c =
    let h : Changed c.args.chunks.now.items c.args.at c.index_mut.result.now = record { within = c.requires.chunk; read = c.index_mut.ensures.value } in
    on-old c.args.chunks.now.items c.args.at c.args.place c.index_mut.result.now c.remove.result h c.requires.place c.remove.ensures.old

pub returns-clause-same : goal.returns-clause-same
returns-clause-same c =
    let h : Changed c.args.chunks.now.items c.args.at c.index_mut.result.now = record { within = c.requires.chunk; read = c.index_mut.ensures.value } in
    on-same c.args.chunks.now.items c.args.at c.index_mut.result.now c.remove.new.shared h c.remove.result c.remove.ensures.same

pub returns-clause-none_empty : goal.returns-clause-none_empty
returns-clause-none_empty c =
    let h : Changed c.args.chunks.now.items c.args.at c.index_mut.result.now = record { within = c.requires.chunk; read = c.index_mut.ensures.value } in
    removed-some c.remove.result c.args.chunks.now.items c.args.at c.args.place c.index_mut.result.now c.remove.new.shared h c.requires.none_empty c.remove.ensures.rules c.remove.ensures.same
    (subst (λ (t : List Rule). c.args.place < length t) (changed-is c.args.chunks.now.items c.args.at c.index_mut.result.now h) c.requires.place)
    (more-there c.args.chunks.now.items c.deref.result.now c.args.at c.args.place c.len_at.result c.index_mut.result.now h c.deref.ensures.value c.requires.place c.len_at.ensures.len c.if-len_at-eq1.false)
