use Rattle.std.proofs.Common.{subst}
use Rattle.mon_cdcl.specs.Back.{Walked}
use Rattle.mon_cdcl.proofs.Learning.{refuted}
use Rattle.mon_cdcl.proofs.solver.settle.Goals as goal

pub returns-in-None-clause-settled : goal.returns-in-None-clause-settled
returns-in-None-clause-settled c =
    let a = c.analyse.new in
    let k = subst (λ r. Walked c.args.f.now c.args.trail.now.entries.items c.args.log.now.items a.trail.entries.items a.trail.marks.items a.seen.flags.items a.seen.vars.items a.hints r) c.in-None.is
    (subst (λ ls. Walked c.args.f.now c.args.trail.now.entries.items ls a.trail.entries.items a.trail.marks.items a.seen.flags.items a.seen.vars.items a.hints c.in_ok-analyse.field-0) c.deref.ensures.value c.in_ok-analyse.ensures) in
    refuted c.args.f.now c.args.trail.now.entries.items c.args.log.now.items c.learn.new.log.items a.trail.entries.items a.trail.marks.items a.seen.flags.items a.seen.vars.items a.hints c.new.result c.in_ok-learn-in-None.field-0
    k.0 k.1 c.new.ensures c.in_ok-learn-in-None.ensures
