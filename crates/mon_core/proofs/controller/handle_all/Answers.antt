use Rattle.std.specs.Vec.Iter.{into_iter_items}
use Rattle.mon_core.proofs.Passing.{handled-more}
use Rattle.mon_core.proofs.controller.handle_all.Goals as goal

pub loop-frame-preserved : goal.loop-frame-preserved
loop-frame-preserved c =
    let more = handled-more c.args.number c.loop-frame.table c.handle.new.table _ (into_iter_items c.loop-frame.frame-iterator) (into_iter_items c.next.new.self) c.in-Some.frame
    c.loop-frame.outs.items c.handle.new.outs.items _ c.in-Some.ensures.steps.0 c.in_ok-handle.ensures.outs c.in_ok-handle.ensures.table c.loop-frame.invariant.outs c.loop-frame.invariant.table in
    record { outs = more.0; table = more.1 }
