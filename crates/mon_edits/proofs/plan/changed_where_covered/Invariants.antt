use Rattle.std.proofs.Common.{◌≡◌, ◌++◌, map, drop}
use Rattle.mon_edits.specs.Naming.{covered}
use Rattle.mon_edits.specs.Edits.{changed}
use Rattle.mon_edits.proofs.plan.changed_where_covered.Given as goal

abbrev pub invariant-loop-place : goal.invariant-loop-place
invariant-loop-place l = l.edits.items ++ map (changed l.m) (covered (drop l.place l.table) l.m) ≡ map (changed l.m) (covered l.table l.m)
