use Rattle.std.proofs.Common.{◌≡◌, ◌++◌, drop}
use Rattle.mon_encode.specs.Cases.{of_any}
use Rattle.mon_encode.proofs.listing.push_any.Given as goal

abbrev pub invariant-loop-place : goal.invariant-loop-place
invariant-loop-place l = l.cases ++ of_any l.class l.in_port l.place (drop l.place l.t) ≡ l.fn.cases ++ of_any l.class l.in_port 0 l.t
