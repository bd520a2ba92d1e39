use Rattle.std.proofs.Common.{◌∙◌, ◌+◌, ap, subst, map, length, Some, arith}
use Rattle.mon_trail.specs.Marks.{value_of}
use Rattle.mon_trail.proofs.Models.{model_true}
use Rattle.mon_cdcl.specs.Asking.{asks_by}
use Rattle.mon_cdcl.specs.Counts.{AskedAtLeast}
use Rattle.mon_cdcl.specs.Search.{Ended}
use Rattle.mon_cdcl.proofs.Steps.{asked_less}
use Rattle.mon_cdcl.proofs.solver.solve.Goals as goal

pub returns-in_ok-values-in-AllTrue-clause-solved : goal.returns-in_ok-values-in-AllTrue-clause-solved
returns-in_ok-values-in-AllTrue-clause-solved g c =
    model_true c.args.f.now c.search.new.trail.marks.items c.in_ok-values-in-AllTrue.field-0 (c.in_ok-values-in-AllTrue.ensures ∙ ap (map value_of) c.deref.ensures.value)
    (subst (Ended c.args.f.now c.search.new.log.items c.search.new.trail.marks.items) c.in-AllTrue.is c.in_ok-search.ensures.ended)

pub returns-in-Stopped-clause-asked : goal.returns-in-Stopped-clause-asked
returns-in-Stopped-clause-asked g c =
    asked_less (length c.search.new.log.items + 1) 1 _ _ (omega arith)
    (subst (λ e. AskedAtLeast (asks_by (Some e) (length c.search.new.log.items)) (g.S.Stop.asked c.args.stop.now) (g.S.Stop.asked c.search.new.stop)) c.in-Stopped.is c.in_ok-search.ensures.asked)
