use Rattle.std.proofs.Common.{subst, sym, None}
use Rattle.mon_cdcl.specs.declared.solver.Go.TheVariants.{On}
use Rattle.mon_cdcl.specs.Search.{Grown, Propagated, WentOn}
use Rattle.mon_cdcl.proofs.Searching.{learned_step, stepped_grown}
use Rattle.mon_cdcl.proofs.solver.step.Goals as goal

pub returns-in-Some-clause-stepped : goal.returns-in-Some-clause-stepped
returns-in-Some-clause-stepped g c =
    let p = subst (λ h. Propagated c.args.f.now c.deref.result.now c.args.trail.now c.propagate.new.trail h) c.in-Some.is c.in_ok-propagate.ensures in
    learned_step c.args.f.now c.deref.result.now c.learn_of.new.log.items c.learn_of.result c.args.restarts.now.left c.conflict.new.self.left c.args.trail.now c.propagate.new.trail c.learn_of.new.trail c.conflict.ensures p.0 c.learn_of.ensures.stepped

pub returns-in-On-clause-stepped : goal.returns-in-On-clause-stepped
returns-in-On-clause-stepped g c =
    let f = c.args.f.now in
    let p = subst (λ h. Propagated f c.deref.result.now c.args.trail.now c.propagate.new.trail h) c.in-None.is c.in_ok-propagate.ensures in
    let s = subst (λ o. WentOn f c.args.restarts.now.left c.propagate.new.trail c.go_on.new.restarts.left c.deref-2.result.now c.go_on.new.trail o) c.in-On.is c.in_ok-go_on.ensures in
    stepped_grown f c.deref.result.now c.args.log.now.items c.args.restarts.now.left c.go_on.new.restarts.left c.args.trail.now c.propagate.new.trail c.go_on.new.trail None p
    (subst (λ ls. WentOn f c.args.restarts.now.left c.propagate.new.trail c.go_on.new.restarts.left ls c.go_on.new.trail On) c.deref-2.ensures.value s)

pub returns-in-Conflict-clause-stepped : goal.returns-in-Conflict-clause-stepped
returns-in-Conflict-clause-stepped g c =
    let f = c.args.f.now in
    let p = subst (λ h. Propagated f c.deref.result.now c.args.trail.now c.propagate.new.trail h) c.in-None.is c.in_ok-propagate.ensures in
    let s = subst (λ o. WentOn f c.args.restarts.now.left c.propagate.new.trail c.go_on.new.restarts.left c.deref-2.result.now c.go_on.new.trail o) c.in-Conflict.is c.in_ok-go_on.ensures in
    learned_step f c.deref.result.now c.learn_of-in-Conflict.new.log.items c.learn_of-in-Conflict.result c.args.restarts.now.left c.go_on.new.restarts.left c.args.trail.now c.go_on.new.trail c.learn_of-in-Conflict.new.trail s.1
    (subst (λ t. Grown f c.deref.result.now c.args.trail.now t) (sym s.0) p) c.learn_of-in-Conflict.ensures.stepped
