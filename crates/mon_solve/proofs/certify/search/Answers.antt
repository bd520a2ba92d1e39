use Rattle.mon_solve.proofs.Cases.{none_more, nothing_found, refuted_more}
use Rattle.mon_solve.proofs.certify.search.Goals as goal

pub loop-case-preserved : goal.loop-case-preserved
loop-case-preserved c = record {
  accepted = refuted_more c.args.j.now _ _ _ _ _ c.in_ok-h.field-0 c.in-Nothing.log c.loop-case-test.true c.loop-case.invariant.accepted
      c.in-Nothing.is c.in_ok-h.ensures c.in_ok-push-in-Nothing.ensures.pushed;
  none = none_more c.args.j.now _ _ _ c.loop-case-test.true c.loop-case.invariant.none
      (nothing_found c.args.j.now _ c.in_ok-h.field-0 c.in-Nothing.log c.in-Nothing.is c.in_ok-h.ensures);
}
