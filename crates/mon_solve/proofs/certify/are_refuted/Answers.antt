use Rattle.std.proofs.Common.{◌∙◌, sym, ap, length, arith}
use Rattle.mon_solve.proofs.Cases.{nothing_separates, all_none, none_more, none_if, step_refuted, too_few}
use Rattle.mon_solve.proofs.certify.are_refuted.Goals as goal

pub returns-then-cases-logs-clause-value : goal.returns-then-cases-logs-clause-value
returns-then-cases-logs-clause-value c =
    sym (too_few c.args.j.now _ _ (λ e. c.if-cases-logs.true (ap length (c.items-cases.ensures ∙ c.in_ok-cases.ensures.value) ∙ e)))

pub loop-place-preserved : goal.loop-place-preserved
loop-place-preserved c = record {
  value = step_refuted c.args.j.now _ _ c.loop-place.place _ c.index-logs-place.result _ c.loop-place-test.true
      (omega (arith, c.if-cases-logs.false, c.loop-place-test.true)) c.index-logs-place.is (sym c.if-not-branch.false ∙ c.in_ok-refutes.ensures.value) c.loop-place.invariant.value;
  none = none_more c.args.j.now _ _ _ c.loop-place-test.true c.loop-place.invariant.none
      (none_if c.args.j.now _ _ c.if-not-branch.false c.in_ok-refutes.ensures.truth);
}

pub returns-clause-truth : goal.returns-clause-truth
returns-clause-truth c =
    nothing_separates _ c.in_ok-cases.ensures.complete
    (all_none _ _ _ (c.items-cases.ensures ∙ c.in_ok-cases.ensures.value) c.loop-place-test.false c.loop-place.invariant.none)
