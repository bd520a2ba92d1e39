use Rattle.mon_cdcl.specs.Search.{Grown}
use Rattle.mon_cdcl.proofs.propagate.propagate.Given as goal

abbrev pub invariant-loop-at : goal.invariant-loop-at
invariant-loop-at l = Grown l.f l.log l.fn.trail l.trail
