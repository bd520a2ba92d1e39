use Rattle.std.proofs.Common.{◌≡◌}
use Rattle.mon_pool.specs.Places.{IsSideOf, last_of}
use Rattle.mon_pool.proofs.tests.next.Given as goal

abbrev pub invariant-loop : goal.invariant-loop
invariant-loop g l = IsSideOf l.pool l.side × (last_of l.side ≡ last_of l.initial.side)
