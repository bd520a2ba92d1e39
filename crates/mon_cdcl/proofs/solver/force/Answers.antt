use Rattle.std.proofs.Common.{subst}
use Rattle.mon_cdcl.specs.Back.{Collected, FellBack}
use Rattle.mon_cdcl.proofs.Learning.{forced}
use Rattle.mon_cdcl.proofs.solver.force.Goals as goal

pub returns-clause-settled : goal.returns-clause-settled
returns-clause-settled c = λ before t.
    forced c.args.f.now before c.args.trail.now.entries.items c.fall_back.new.trail.entries.items c.args.log.now.items c.learn.new.log.items c.args.trail.now.marks.items c.fall_back.new.trail.marks.items
    c.args.seen.now.flags.items c.args.seen.now.vars.items c.args.hints.now c.args.turn c.in_ok-clause.clause c.push.new.self c.in_ok-number.number t
    (subst (λ ls. FellBack c.args.f.now ls c.args.trail.now.entries.items c.args.trail.now.marks.items c.fall_back.new.trail.entries.items c.fall_back.new.trail.marks.items c.args.turn.len) c.deref.ensures.value c.in_ok-fall_back.ensures)
    (subst (λ ms. Collected ms c.args.seen.now.flags.items c.args.seen.now.vars.items c.in_ok-clause.clause) c.deref-2.ensures.value c.in_ok-clause.ensures)
    c.in_ok-push.ensures.pushed c.in_ok-number.ensures
