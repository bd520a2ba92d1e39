use Rattle.std.proofs.Common.{◌≡◌, ◌++◌}
use Rattle.std.specs.Vec.Iter.{into_iter_items}
use Rattle.mon_world.specs.declared.event.Side.TheVariants.{Switch}
use Rattle.mon_legal.specs.Runs.{Run}
use Rattle.mon_legal.specs.Directly.{frames_to}
use Rattle.mon_session.specs.Walks.{walks, steps_of}
use Rattle.mon_session.specs.Dues.{met}
use Rattle.mon_session.proofs.session.Session.send_all.Given as goal

abbrev pub invariant-loop-frame : goal.invariant-loop-frame
invariant-loop-frame l = record {
  number : l.self.number ≡ l.fn.self.number;
  walk : (run : Run) → walks run l.self (met (frames_to Switch (into_iter_items l.frame-iterator))) ≡ walks run l.fn.self (met (frames_to Switch l.fn.frames));
  outs : l.outs ++ steps_of l.self.number (met (frames_to Switch (into_iter_items l.frame-iterator))) ≡ l.fn.outs ++ steps_of l.fn.self.number (met (frames_to Switch l.fn.frames));
}
