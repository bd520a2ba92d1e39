use Rattle.std.proofs.Common.{◌∙◌, sym}
use Rattle.mon_cdcl.proofs.Learning.{collected_at_unseen, collected_at_free, collected_at_push}
use Rattle.mon_cdcl.proofs.learn.collect.Goals as goal

pub loop-var-preserved-then-not-has : goal.loop-var-preserved-then-not-has
loop-var-preserved-then-not-has c =
    collected_at_unseen c.args.marks.now c.args.seen.now.flags.items c.args.seen.now.vars.items c.deref-var-items.result.now c.loop-var.var-index c.loop-var.clause c.deref-var-items.ensures.value c.loop-var-test.true
    (sym c.has.ensures ∙ c.if-not-has.true) c.loop-var.invariant

pub loop-var-preserved-in-None : goal.loop-var-preserved-in-None
loop-var-preserved-in-None c =
    collected_at_free c.args.marks.now c.args.seen.now.flags.items c.args.seen.now.vars.items c.deref-var-items.result.now c.loop-var.var-index c.loop-var.clause c.deref-var-items.ensures.value c.loop-var-test.true
    c.in-None.ensures c.loop-var.invariant

pub loop-var-preserved : goal.loop-var-preserved
loop-var-preserved c =
    collected_at_push c.args.marks.now c.args.seen.now.flags.items c.args.seen.now.vars.items c.deref-var-items.result.now c.loop-var.var-index c.loop-var.clause c.push.new.self c.in-Some.value c.deref-var-items.ensures.value c.loop-var-test.true
    c.in-Some.ensures c.in_ok-push-in-Some.ensures.pushed c.loop-var.invariant
