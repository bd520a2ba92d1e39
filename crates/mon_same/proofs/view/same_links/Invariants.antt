use Rattle.std.proofs.Common.{◌≡◌, length, take}
use Rattle.mon_same.proofs.view.same_links.Given as goal

-- the runs are of one length, and agree so far
abbrev pub invariant-loop-i : goal.invariant-loop-i
invariant-loop-i l = (length l.xs ≡ length l.ys) × (take l.i l.xs ≡ take l.i l.ys)
