use Rattle.mon_table.proofs.Tabling.{slice-few, kept-slice}
use Rattle.mon_table.proofs.table.Table.slice.Goals as goal

pub count-count-requires : goal.count-count-requires
count-count-requires c =
    slice-few c.args.m.now c.self.inside.chunks.items c.deref.result.now c.in_ok-chunks.chunks.items c.deref-2.result.now c.self.inside.count c.self.invariant c.in_ok-chunks.ensures.rules c.deref.ensures.value c.deref-2.ensures.value

pub invariant_of-result : goal.invariant_of-result
invariant_of-result c =
    kept-slice c.args.m.now c.self.inside.chunks.items c.deref.result.now c.in_ok-chunks.chunks.items c.deref-2.result.now c.self.inside.count c.count-count.result c.self.invariant c.in_ok-chunks.ensures.rules
    c.deref.ensures.value c.deref-2.ensures.value c.count-count.ensures c.in_ok-chunks.ensures.none_empty
