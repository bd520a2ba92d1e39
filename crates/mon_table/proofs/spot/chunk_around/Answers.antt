use Rattle.std.proofs.Common.{◌-◌, rules, arith}
use Rattle.std.proofs.lemmas.List.Sorted.{IsPartitionPoint-from_clause}
use Rattle.std.specs.Arc.{arc_value}
use Rattle.mon_table.specs.Rules.{Identity}
use Rattle.mon_table.specs.Chunks.{ends_before}
use Rattle.mon_table.proofs.Seeking.{chunks-partitioned, around-found, around-last}
use Rattle.mon_table.proofs.spot.chunk_around.Goals as goal

pub returns-then-ended-chunks : goal.returns-then-ended-chunks
returns-then-ended-chunks c =
    let t = c.args.chunks.now in
    let i : Identity = record { rank = c.args.rank; matching = c.args.m.now } in
    around-found i t c.partition_point-ended.result c.keeps.ensures c.requires.table c.requires.none_empty c.if-ended-chunks.true
    (IsPartitionPoint-from_clause (λ s. ends_before i (arc_value s)) t _ c.partition_point-ended.ensures.partitioned (chunks-partitioned i t c.requires.table.order c.requires.none_empty) (λ a r f k. search rules))

pub returns : goal.returns
returns c =
    let t = c.args.chunks.now in
    let i : Identity = record { rank = c.args.rank; matching = c.args.m.now } in
    around-last i t c.partition_point-ended.result c.requires.table c.requires.some c.if-ended-chunks.false c.partition_point-ended.ensures.bound
    (IsPartitionPoint-from_clause (λ s. ends_before i (arc_value s)) t _ c.partition_point-ended.ensures.partitioned (chunks-partitioned i t c.requires.table.order c.requires.none_empty) (λ a r f k. search rules))
    (c.partition_point-ended.result - 1) (let h = c.if-ended-chunks.false in let k = c.requires.some in omega arith)
