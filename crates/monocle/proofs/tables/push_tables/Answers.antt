use Rattle.mon_core.specs.History.{armed}
use Rattle.monocle.proofs.Listing.{table-more}
use Rattle.monocle.proofs.tables.push_tables.Goals as goal

pub loop-place-preserved : goal.loop-place-preserved
loop-place-preserved c =
    table-more (armed c.args.core.now) c.loop-place.place c.in-Some.session c.in-Some.table.now c.loop-place.bytes.items c.push_table.new.bytes.items _
    c.in-Some.ensures c.in_ok-push_table-in-Some.ensures c.loop-place.invariant
