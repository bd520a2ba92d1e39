use Rattle.std.proofs.Common.{◌≡◌, ◌++◌, drop}
use Rattle.std.specs.Prelude.{flat_map}
use Rattle.mon_literals.specs.Patterns.{runs_of, pattern_of}
use Rattle.mon_literals.specs.Runs.{spelled}
use Rattle.mon_literals.proofs.matching.pattern.Given as goal

-- the literals so far, before those of the runs that are left
abbrev pub invariant-loop-run : goal.invariant-loop-run
invariant-loop-run l = (l.run-items ≡ runs_of l.m) × (l.literals ++ flat_map spelled (drop l.run-index l.run-items) ≡ pattern_of l.m)
