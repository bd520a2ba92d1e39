use Rattle.std.proofs.Common.{◌<◌, List, length, subst}
use Rattle.mon_table.specs.declared.rule.Rule.{Rule}
use Rattle.mon_table.proofs.Parting.{Changed, changed-is, on-set, on-same, on-old}
use Rattle.mon_table.proofs.chunks.replace_at.Goals as goal

pub replace-requires : goal.replace-requires
replace-requires c =
    let h : Changed c.args.chunks.now.items c.args.at c.index_mut.result.now = record { within = c.requires.chunk; read = c.index_mut.ensures.value } in
    subst (λ (t : List Rule). c.args.place < length t) (changed-is c.args.chunks.now.items c.args.at c.index_mut.result.now h) c.requires.place

pub returns-clause-rules : goal.returns-clause-rules
returns-clause-rules c =
    let h : Changed c.args.chunks.now.items c.args.at c.index_mut.result.now = record { within = c.requires.chunk; read = c.index_mut.ensures.value } in
    on-set c.args.chunks.now.items c.args.at c.index_mut.result.now c.replace.new.shared h c.replace.result c.args.place c.args.rule c.requires.place c.replace.ensures.rules

pub returns-clause-old : goal.returns-clause-old
returns-clause-old c =
    let h : Changed c.args.chunks.now.items c.args.at c.index_mut.result.now = record { within = c.requires.chunk; read = c.index_mut.ensures.value } in
    on-old c.args.chunks.now.items c.args.at c.args.place c.index_mut.result.now c.replace.result h c.requires.place c.replace.ensures.old

pub returns-clause-same : goal.returns-clause-same
returns-clause-same c =
    let h : Changed c.args.chunks.now.items c.args.at c.index_mut.result.now = record { within = c.requires.chunk; read = c.index_mut.ensures.value } in
    on-same c.args.chunks.now.items c.args.at c.index_mut.result.now c.replace.new.shared h c.replace.result c.replace.ensures.same
