use Rattle.std.proofs.Common.{◌≡◌, length, take}
use Rattle.mon_same.proofs.rule.same_table.Given as goal

-- the tables are of one length, and agree so far
abbrev pub invariant-loop-place : goal.invariant-loop-place
invariant-loop-place l = (length l.a ≡ length l.b) × (take l.place l.a ≡ take l.place l.b)
