use Rattle.std.proofs.Common.{List, ◌++◌, map, ap, ◌∙◌, sym, subst}
use Rattle.crossbeam_queue.specs.Passes.{view, ruled_capacity}
use Rattle.crossbeam_queue.specs.Fifo.{Held}
use Rattle.mon_job.specs.Jobs.{Task}
use Rattle.mon_tally.specs.Tallies.{AsOften, WasSo}
use Rattle.mon_pool.specs.Plain.{jobs_of, arc_job}
use Rattle.mon_pool.specs.Outs.{out_of}
use Rattle.mon_pool.proofs.pool.Pool.take.Goals as goal

pub invariant_of-side-clause-rest : goal.invariant_of-side-clause-rest
invariant_of-side-clause-rest g c = subst (λ (l : List Task). AsOften l (jobs_of (view c.args.side.now.answers).taken ++ out_of c.args.side.now.out)) (sym c.push_waiting.ensures.all) c.args.side.now.rest

pub returns-in_err-mine-clause-full : goal.returns-in_err-mine-clause-full
returns-in_err-mine-clause-full g c = λ some.
    subst (λ p. Held (ruled_capacity c.args.self.now.jobs) (WasSo arc_job (view p))) (sym c.take_fitting.ensures.kept.0)
    (c.push_waiting.ensures.full (λ none. some (ap (λ w. map arc_job w.items) c.take_fitting.ensures.kept.1 ∙ ap (map arc_job) none)))

pub returns-clause-full : goal.returns-clause-full
returns-clause-full g c = λ some.
    subst (λ p. Held (ruled_capacity c.args.self.now.jobs) (WasSo arc_job (view p))) (sym c.take_fitting.ensures.kept.0)
    (c.push_waiting.ensures.full (λ none. some (ap (λ w. map arc_job w.items) c.take_fitting.ensures.kept.1 ∙ ap (map arc_job) none)))
