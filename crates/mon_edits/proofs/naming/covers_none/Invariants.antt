use Rattle.std.proofs.Common.{◌≡◌, drop}
use Rattle.mon_edits.specs.Naming.{is_none, covered}
use Rattle.mon_edits.proofs.naming.covers_none.Given as goal

abbrev pub invariant-loop-place : goal.invariant-loop-place
invariant-loop-place l = is_none (covered (drop l.place l.table) l.m) ≡ is_none (covered l.table l.m)
