use Rattle.std.proofs.Common.{◌≡◌, ◌++◌}
use Rattle.std.specs.Vec.Iter.{into_iter_items}
use Rattle.mon_core.specs.History.{sent}
use Rattle.mon_core.proofs.outputs.push_all.Given as goal

abbrev pub invariant-loop-frame : goal.invariant-loop-frame
invariant-loop-frame l =
    l.outs.items ++ sent l.number l.to (into_iter_items l.frame-iterator) ≡ l.fn.outs.items ++ sent l.number l.to l.fn.frames
