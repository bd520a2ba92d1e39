use Rattle.std.proofs.Common.{◌≡◌, drop}
use Rattle.mon_edits.specs.Refusals.{has_rival}
use Rattle.mon_edits.proofs.refusal.has_rival.Given as goal

abbrev pub invariant-loop-place : goal.invariant-loop-place
invariant-loop-place l = has_rival (drop l.place l.table) l.m ≡ has_rival l.table l.m
