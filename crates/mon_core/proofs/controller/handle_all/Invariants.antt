use Rattle.std.proofs.Common.{◌≡◌, ◌++◌}
use Rattle.std.specs.Vec.Iter.{into_iter_items}
use Rattle.mon_core.specs.Fates.{followed_all}
use Rattle.mon_core.specs.History.{from_frames}
use Rattle.mon_core.proofs.controller.handle_all.Given as goal

abbrev pub invariant-loop-frame : goal.invariant-loop-frame
invariant-loop-frame l = record {
  outs : l.outs.items ++ from_frames l.number l.table (into_iter_items l.frame-iterator) ≡ l.fn.outs.items ++ from_frames l.number l.fn.table l.fn.frames;
  table : followed_all l.table (into_iter_items l.frame-iterator) ≡ followed_all l.fn.table l.fn.frames;
}
