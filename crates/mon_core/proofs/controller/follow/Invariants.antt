use Rattle.std.proofs.Common.{◌≡◌}
use Rattle.std.specs.Vec.Iter.{into_iter_items}
use Rattle.mon_table.specs.Edits.{after_all}
use Rattle.mon_core.proofs.controller.follow.Given as goal

abbrev pub invariant-loop-edit : goal.invariant-loop-edit
invariant-loop-edit l = after_all l.table (into_iter_items l.edit-iterator) ≡ after_all l.fn.table l.fn.edits
