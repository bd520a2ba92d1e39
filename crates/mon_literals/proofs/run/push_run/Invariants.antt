use Rattle.std.proofs.Common.{◌≡◌, ◌++◌, ◌+◌, ◌-◌}
use Rattle.mon_header.specs.Places.{bits_of}
use Rattle.mon_literals.specs.Runs.{spelled, valued}
use Rattle.mon_literals.proofs.Running.{signed}
use Rattle.mon_literals.proofs.run.push_run.Given as goal

-- the literals so far, before those of the bits that are left
abbrev pub invariant-loop-i : goal.invariant-loop-i
invariant-loop-i l =
    l.literals ++ signed l.positive (valued (l.run.start + l.i) (bits_of (l.run.count - l.i) l.run.number))
    ≡ l.fn.literals ++ signed l.positive (spelled l.run)
