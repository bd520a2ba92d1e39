use Rattle.std.proofs.Common.{◌≡◌, take, map}
use Rattle.mon_literals.specs.Clauses.{appended}
use Rattle.mon_encode.specs.Clauses.{unmatched}
use Rattle.mon_encode.proofs.winning.push_none.Given as goal

abbrev pub invariant-loop-place : goal.invariant-loop-place
invariant-loop-place l = l.f ≡ appended l.fn.f (map unmatched (take l.place l.t))
