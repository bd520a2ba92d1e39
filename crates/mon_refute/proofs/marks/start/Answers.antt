use Rattle.std.proofs.Common.{arith, ◌∙◌, sym}
use Rattle.mon_refute.proofs.Shown.{start_more}
use Rattle.mon_refute.proofs.Clearing.{start_others, taken_others}
use Rattle.mon_refute.proofs.marks.start.Goals as goal

pub loop-literal-preserved : goal.loop-literal-preserved
loop-literal-preserved c = record {
  known = start_more c.loop-literal.marks c.args.line.now c.loop-literal.invariant.known.0 c.loop-literal.literal-index c.other_mark_of.result _ c.loop-literal.invariant.known.1 c.loop-literal-test.true (omega arith) (λ e. c.if-marks-var.false (e ∙ sym c.mark_of.ensures)) c.other_mark_of.ensures c.loop-literal.invariant.known.2;
  others = start_others c.loop-literal.marks c.args.line.now c.loop-literal.literal-index c.other_mark_of.result _ c.loop-literal-test.true c.loop-literal.invariant.others;
}

pub returns-then-var-marks-clause-others : goal.returns-then-var-marks-clause-others
returns-then-var-marks-clause-others c = taken_others c.loop-literal.marks c.args.line.now c.loop-literal.literal-index c.loop-literal.invariant.others
