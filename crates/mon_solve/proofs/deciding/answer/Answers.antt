use Rattle.std.proofs.Common.{◌∙◌}
use Rattle.mon_solve.proofs.Cases.{nothing_separates, all_none, none_more, nothing_found, none_given, asked_more}
use Rattle.mon_solve.proofs.deciding.answer.Goals as goal

pub loop-case-preserved : goal.loop-case-preserved
loop-case-preserved g c = record {
  about = c.ask.ensures.about ∙ c.loop-case.invariant.about;
  floor = c.ask.ensures.same ∙ c.loop-case.invariant.floor;
  shown = c.ask.ensures.told ∙ none_given c.ask.result c.in_default-ask.not-Some;
  asked = asked_more c.loop-case.case-index _ _ _ c.loop-case.invariant.asked c.ask.ensures.counted;
  none = none_more c.args.job.now _ _ _ c.loop-case-test.true c.loop-case.invariant.none
      (nothing_found c.args.job.now _ c.in-Ok-Nothing.field-0 c.in-Ok-Nothing.field-0-0 c.in-Ok-Nothing.field-0-is c.in-Ok-Nothing.ensures);
}

pub returns-clause-truth : goal.returns-clause-truth
returns-clause-truth g c =
    nothing_separates _ c.in-Ok.ensures.complete (all_none _ _ _ (c.items-case-items.ensures ∙ c.in-Ok.ensures.value) c.loop-case-test.false c.loop-case.invariant.none)
