use Rattle.mon_cdcl.specs.Search.{Grown}
use Rattle.mon_cdcl.proofs.propagate.begin.Given as goal

abbrev pub invariant-loop-place : goal.invariant-loop-place
invariant-loop-place l = Grown l.f l.log l.fn.trail l.trail
