use Rattle.std.proofs.Common.{rules}
use Rattle.std.proofs.lemmas.List.Sorted.{IsPartitionPoint-from_clause}
use Rattle.mon_table.specs.Rules.{Identity, identity_of, comes_before}
use Rattle.mon_table.proofs.Placing.{is-partitioned, place-is}
use Rattle.mon_table.proofs.spot.search.Goals as goal

pub returns-clause-value : goal.returns-clause-value
returns-clause-value c =
    let t = c.args.rules.now in
    let i : Identity = record { rank = c.args.rank; matching = c.args.m.now } in
    place-is i t _ c.partition_point.ensures.bound
    (IsPartitionPoint-from_clause (λ r. comes_before (identity_of r) i) t _ c.partition_point.ensures.partitioned (is-partitioned i t c.requires) (λ a r f k. search rules))
