use Rattle.of_frame.proofs.Slices.{goes-on}
use Rattle.of_frame.proofs.cutter.Cutter.feed.Goals as goal

pub loop-rest-preserved : goal.loop-rest-preserved
loop-rest-preserved c =
    rw (c.behind-rest.ensures, c.in_ok-keep.ensures)
    (goes-on c.loop-rest.frames c.loop-rest.self c.advance.new.self c.in_ok-count.frame c.in_ok-count.count c.loop-rest.rest.now _ c.in_ok-count.ensures.cut c.loop-rest.invariant)
