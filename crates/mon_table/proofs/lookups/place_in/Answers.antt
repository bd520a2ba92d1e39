use Rattle.std.proofs.Common.{arith}
use Rattle.mon_table.proofs.Looking.{place-few}
use Rattle.mon_table.proofs.lookups.place_in.Goals as goal

pub count-requires : goal.count-requires
count-requires c =
    let f = place-few c.args.chunks.now c.args.at c.args.place c.requires.place in
    omega (arith, f, c.requires.few)

pub overflow_cast-result : goal.overflow_cast-result
overflow_cast-result c =
    let f = place-few c.args.chunks.now c.args.at c.args.place c.requires.place in
    omega (arith, f, c.requires.few)

pub overflow_add-result : goal.overflow_add-result
overflow_add-result c =
    let f = place-few c.args.chunks.now c.args.at c.args.place c.requires.place in
    let e = c.count.ensures in
    omega (arith, e, f, c.requires.few)
