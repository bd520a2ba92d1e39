use Rattle.std.proofs.Common.{[], ◌∷◌, ◌++◌, ap, ◌∙◌}
use Rattle.mon_plan.proofs.Sharing.{found-count, found-shares, found-left}
use Rattle.mon_plan.proofs.plan.all_found.Goals as goal

pub loop-found-preserved : goal.loop-found-preserved
loop-found-preserved c =
    let pushed = c.in_ok-push_back.ensures.items ∙ ap (λ s. c.loop-found.shares.items ++ s ∷ []) c.of.ensures in
    let first = c.in-Some.ensures.steps.0 in record {
      count = found-count _ _ _ _ _ _ _ first pushed c.loop-found.invariant.count;
      shares = λ v t step f. found-shares v t step _ _ _ _ _ _ first c.in_ok-found.was pushed (c.loop-found.invariant.more v t step f) (c.loop-found.invariant.shares v t step f);
      more = λ v t step f. found-left v t step _ _ _ _ _ _ first pushed (c.loop-found.invariant.more v t step f);
    }
