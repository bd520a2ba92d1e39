use Rattle.std.proofs.Common.{◌≡◌, drop}
use Rattle.mon_outcome.specs.Emitting.{emissions, emission_at}
use Rattle.mon_outcome.proofs.outcome.emission_at.Given as goal

abbrev pub invariant-loop-action : goal.invariant-loop-action
invariant-loop-action l = emission_at (emissions (drop l.action-index l.action-items) l.header) l.left ≡ emission_at (emissions l.a l.h) l.position
