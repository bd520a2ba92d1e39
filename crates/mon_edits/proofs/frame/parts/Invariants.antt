use Rattle.std.proofs.Common.{◌≡◌, ◌++◌, true, drop}
use Rattle.std.specs.List.{AllByRecursion}
use Rattle.mon_edits.specs.Naming.{is_deletion}
use Rattle.mon_edits.specs.Frames.{is_cut, parts}
use Rattle.mon_edits.proofs.frame.parts.Given as goal

abbrev pub invariant-loop-edit : goal.invariant-loop-edit
invariant-loop-edit l = record {
  pushed : l.frames ++ parts l.m l.first (drop l.edit-index l.edits) ≡ parts l.m true l.edits;
  kind : AllByRecursion (λ e. is_cut e ≡ is_deletion l.m.command) (drop l.edit-index l.edits);
}
