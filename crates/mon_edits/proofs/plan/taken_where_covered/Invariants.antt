use Rattle.std.proofs.Common.{◌≡◌, ◌++◌, map, drop}
use Rattle.std.specs.List.{filter}
use Rattle.mon_edits.specs.Naming.{covered}
use Rattle.mon_edits.specs.Edits.{is_taken, taken}
use Rattle.mon_edits.proofs.plan.taken_where_covered.Given as goal

abbrev pub invariant-loop-place : goal.invariant-loop-place
invariant-loop-place l = l.edits.items ++ map taken (filter (is_taken l.m) (covered (drop l.place l.table) l.m)) ≡ map taken (filter (is_taken l.m) (covered l.table l.m))
