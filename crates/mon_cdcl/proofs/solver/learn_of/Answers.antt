use Rattle.std.proofs.Common.{subst}
use Rattle.mon_cdcl.specs.Search.{Settled}
use Rattle.mon_cdcl.proofs.Searching.{settled_steps}
use Rattle.mon_cdcl.proofs.solver.learn_of.Goals as goal

pub returns-in_ok-enter-in-Some-2-clause-stepped : goal.returns-in_ok-enter-in-Some-2-clause-stepped
returns-in_ok-enter-in-Some-2-clause-stepped g c = λ left.
    settled_steps c.args.f.now c.args.trail.now.entries.items c.settle.new.trail.entries.items c.settle.new.log.items c.settle.new.trail.marks.items c.enter.new.self c.in-Some-2.entry left
    (subst (Settled c.args.f.now c.args.trail.now.entries.items c.settle.new.log.items c.settle.new.trail.entries.items c.settle.new.trail.marks.items) c.in-Some-2.is c.in_ok-settle.ensures.settled)
    c.in_ok-enter-in-Some-2.ensures.0 c.in_ok-enter-in-Some-2.ensures.1
