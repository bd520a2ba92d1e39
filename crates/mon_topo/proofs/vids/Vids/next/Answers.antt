use Rattle.std.proofs.Common.{◌≡◌, suc, arith}
use Rattle.mon_topo.specs.Ascending.{next}
use Rattle.mon_topo.proofs.Following.{next-of}
use Rattle.mon_topo.proofs.vids.Vids.next.Goals as goal

pub returns-in-Some : goal.returns-in-Some
returns-in-Some c =
    let least : next 1 c.args.self.now ≡ suc c.in-Some.last.now = next-of 1 _ _ _ c.items.ensures.value c.in-Some.ensures.value in
    omega (arith, c.from.ensures)
