use Rattle.std.proofs.Common.{subst, arith}
use Rattle.mon_plan.specs.Sharing.{IsPlanned, every}
use Rattle.mon_plan.proofs.Planning.{has-rule}
use Rattle.mon_plan.proofs.Sharing.{Fits, fits-more, fits-whole, every-behind, every-taken, every-none}
use Rattle.mon_plan.proofs.plan.plan_share.Goals as goal

pub loop-place-preserved-then-others-gt0 : goal.loop-place-preserved-then-others-gt0
loop-place-preserved-then-others-gt0 c = record {
  fits = subst (λ u. Fits (IsPlanned c.args.v.now c.args.t.now) (every c.args.step c.args.first c.args.t.now) u c.loop-place.certificates)
      (every-behind c.args.step c.loop-place.others c.args.t.now c.loop-place.place (omega (arith, c.loop-place-test.true, c.len-place-end.ensures.value)) c.if-others-gt0.true)
      c.loop-place.invariant.fits;
}

pub certificate_of-requires-clause-there : goal.certificate_of-requires-clause-there
certificate_of-requires-clause-there c = has-rule c.args.t.now c.loop-place.place _ (omega (arith, c.loop-place-test.true, c.len-place-end.ensures.value)) c.rule.ensures

pub loop-place-preserved : goal.loop-place-preserved
loop-place-preserved c = record {
  fits = fits-more (IsPlanned c.args.v.now c.args.t.now) _ _ _ _ _ _
      (subst (λ u. Fits (IsPlanned c.args.v.now c.args.t.now) (every c.args.step c.args.first c.args.t.now) u c.loop-place.certificates)
      (every-taken c.args.step c.loop-place.others c.args.t.now c.loop-place.place _ (omega (arith, c.loop-place-test.true, c.len-place-end.ensures.value)) c.rule.ensures (omega (arith, c.if-others-gt0.false)))
      c.loop-place.invariant.fits)
      (c.in_ok-certificate_of.ensures.certificate, c.in_ok-certificate_of.ensures.range) c.in_ok-push.ensures.pushed;
}

pub returns : goal.returns
returns c = fits-whole (IsPlanned c.args.v.now c.args.t.now) _ _ _
    (every-none c.args.step c.loop-place.others c.args.t.now c.loop-place.place (omega (arith, c.loop-place-test.false, c.len-place-end.ensures.value))) c.loop-place.invariant.fits
