use Rattle.std.proofs.Common.{◌≡◌, ap, ◌∙◌, sym, arith}
use Rattle.mon_solve.specs.Accepting.{CertificateIsTrue}
use Rattle.mon_plan.specs.Planning.{watch_of}
use Rattle.mon_plan.specs.declared.check.Checked.TheVariants.{Refused}
use Rattle.mon_plan.specs.Checking.{checked}
use Rattle.mon_plan.proofs.Planning.{has-rule}
use Rattle.mon_plan.proofs.Checking.{accepted-more, refused-few, refused-more, each-both, true-if}
use Rattle.mon_plan.proofs.check.check_table.Goals as goal

pub returns-then-place-certificates-clause-exact : goal.returns-then-place-certificates-clause-exact
returns-then-place-certificates-clause-exact c =
    refused-few c.args.v.now c.args.t.now _ c.loop-place.place _ (omega (arith, c.loop-place-test.true, c.len-size.ensures.value)) c.if-place-certificates.true c.loop-place.invariant.value
    ∙ ap (checked c.args.v.now c.args.t.now) c.items-certificates.ensures

pub accepts-requires-clause-there : goal.accepts-requires-clause-there
accepts-requires-clause-there c = has-rule c.args.t.now c.loop-place.place _ (omega (arith, c.loop-place-test.true, c.len-size.ensures.value)) c.rule.ensures

pub loop-place-preserved : goal.loop-place-preserved
loop-place-preserved c =
    record {
      value = accepted-more c.args.v.now c.args.t.now _ c.loop-place.place _ _ _ (omega (arith, c.loop-place-test.true, c.len-size.ensures.value)) c.if-place-certificates.false
          c.rule.ensures c.index-certificates-place.is (sym c.in_ok-accepts.ensures.value ∙ c.if-not-branch.false) c.loop-place.invariant.value;
      truth = each-both (λ r d. CertificateIsTrue (watch_of c.args.v.now c.args.t.now r) d) c.args.t.now _ c.loop-place.place _ _ (omega (arith, c.loop-place-test.true, c.len-size.ensures.value)) c.if-place-certificates.false
          c.rule.ensures c.index-certificates-place.is c.loop-place.invariant.truth (true-if _ _ c.if-not-branch.false c.in_ok-accepts.ensures.truth);
    }

pub returns-then-certificates-size-clause-exact : goal.returns-then-certificates-size-clause-exact
returns-then-certificates-size-clause-exact c =
    let same : c.loop-place.place ≡ c.len-size.result = omega (arith, c.loop-place-test.false, c.loop-place.auto.place-end) in
    ap Refused (sym same)
    ∙ (refused-more c.args.v.now c.args.t.now _ c.loop-place.place _ (omega (arith, c.loop-place-test.false, c.len-size.ensures.value)) (omega (arith, c.if-certificates-size.true, same)) c.loop-place.invariant.value
    ∙ ap (checked c.args.v.now c.args.t.now) c.items-certificates.ensures)
