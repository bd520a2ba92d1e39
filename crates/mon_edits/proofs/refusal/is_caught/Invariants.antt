use Rattle.std.proofs.Common.{◌≡◌, drop}
use Rattle.mon_edits.specs.Refusals.{is_caught}
use Rattle.mon_edits.proofs.refusal.is_caught.Given as goal

abbrev pub invariant-loop-place : goal.invariant-loop-place
invariant-loop-place l = is_caught (drop l.place l.catching) l.m ≡ is_caught l.catching l.m
