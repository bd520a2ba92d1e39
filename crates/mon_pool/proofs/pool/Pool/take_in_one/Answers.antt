use Rattle.std.proofs.Common.{ℕ, ◌<◌, ◌++◌, sym, ap, ◌∙◌, subst, arith}
use Rattle.std.proofs.lemmas.List.{map-append}
use Rattle.crossbeam_queue.specs.Passes.{view}
use Rattle.mon_tally.proofs.Counts.{merges}
use Rattle.mon_pool.specs.Plain.{told, arc_job, job_of, jobs_of}
use Rattle.mon_pool.proofs.pool.Pool.take_in_one.Goals as goal

pub absorb-requires-clause-rule : goal.absorb-requires-clause-rule
absorb-requires-clause-rule c = merges arc_job _ _ _ _ c.requires.parts.0

pub absorb-requires-2-clause-rule : goal.absorb-requires-2-clause-rule
absorb-requires-2-clause-rule c = merges told _ _ _ _ c.requires.parts.1

pub gather-requires-clause-board : goal.gather-requires-clause-board
gather-requires-clause-board c = (c.requires.places.2, c.requires.worker.2)

pub gather-requires-clause-some : goal.gather-requires-clause-some
gather-requires-clause-some c = subst (λ (n : ℕ). 0 < n) (sym c.args.self.now.slots) (omega arith)

pub returns-clause-tied : goal.returns-clause-tied
returns-clause-tied c =
    ap (λ v. jobs_of v.put) c.absorb-2.ensures.rule
    ∙ (map-append job_of (view c.args.answers.now).put (view c.args.pass.answers).put
    ∙ (ap (λ l. l ++ jobs_of (view c.args.pass.answers).put) c.requires.tied
    ∙ (ap (λ l. (view c.args.jobs.now).taken ++ l) c.args.pass.tied
    ∙ sym (ap (λ v. v.taken) c.absorb.ensures.rule))))
