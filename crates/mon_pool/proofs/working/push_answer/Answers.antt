use Rattle.std.proofs.Common.{ℕ, ◌<◌, [], ◌∷◌, ◌++◌, sym, ap, subst, ◌∙◌}
use Rattle.crossbeam_queue.specs.Passes.{view}
use Rattle.mon_tally.specs.Tallies.{tally}
use Rattle.mon_pool.specs.Plain.{told}
use Rattle.mon_tally.proofs.Counts.{puts}
use Rattle.mon_pool.proofs.working.push_answer.Goals as goal

pub try_push_as-requires-clause-queue : goal.try_push_as-requires-clause-queue
try_push_as-requires-clause-queue g c = (c.loop.invariant.0.0 ∙ c.requires.0.0, c.loop.invariant.0.2 ∙ c.requires.0.1)

pub try_push_as-requires-clause-rule : goal.try_push_as-requires-clause-rule
try_push_as-requires-clause-rule g c = puts told _ _ _ _ (subst (λ (n : ℕ). 0 < n) (ap (λ v. v.parts) (sym c.loop.invariant.1)) c.requires.1)

pub returns-in-Ok-clause-view : goal.returns-in-Ok-clause-view
returns-in-Ok-clause-view g c =
    c.in-Ok.ensures.rule
    ∙ (ap (λ x. tally (view c.loop.pass).parts ((view c.loop.pass).put ++ told x ∷ []) (view c.loop.pass).taken (view c.loop.pass).dropped) c.loop.invariant.2
    ∙ ap (λ v. tally v.parts (v.put ++ told c.args.answer ∷ []) v.taken v.dropped) c.loop.invariant.1)
