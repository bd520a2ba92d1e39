use Rattle.std.proofs.Common.{◌<◌, ℕ, ap, sym, ◌∙◌, subst, arith}
use Rattle.crossbeam_queue.specs.Passes.{view}
use Rattle.mon_tally.proofs.Counts.{takes}
use Rattle.mon_pool.specs.Plain.{told, arc_job, jobs_of}
use Rattle.mon_pool.specs.Marks.{marks_of, all_shown}
use Rattle.mon_pool.proofs.Marking.{tied_snoc, saw_snoc, all_shown-snoc}
use Rattle.mon_pool.proofs.pool.Pool.work_once.Goals as goal

pub pop_as-requires-clause-rule : goal.pop_as-requires-clause-rule
pop_as-requires-clause-rule g c = (takes arc_job _ _ (subst (λ (n : ℕ). 0 < n) (sym c.args.pass.now.job_role.2) (omega arith)), λ items views h at. tt)

pub invariant_of-pass-2-clause-tied : goal.invariant_of-pass-2-clause-tied
invariant_of-pass-2-clause-tied g c =
    ap (λ v. jobs_of v.put) c.push_answer.ensures.view
    ∙ (tied_snoc (view c.args.pass.now.answers).put (view c.args.pass.now.jobs).taken (told c.decide_by_board-answer.result) c.in-Some.job.value c.args.pass.now.tied c.decide_by_board-answer.ensures.job
    ∙ sym (ap (λ v. v.taken) c.in-Some.ensures.rule))

pub invariant_of-pass-2-clause-saw : goal.invariant_of-pass-2-clause-saw
invariant_of-pass-2-clause-saw g c =
    saw_snoc _ _ (view c.args.pass.now.answers).put (told c.decide_by_board-answer.result) c.decide_by_board-answer.ensures.seen c.decide_by_board-answer.ensures.jobs c.args.pass.now.saw
    ∙ ap (λ v. marks_of v.put) (sym c.push_answer.ensures.view)

pub invariant_of-pass-2-clause-shown : goal.invariant_of-pass-2-clause-shown
invariant_of-pass-2-clause-shown g c =
    ap (λ v. all_shown v.put) c.push_answer.ensures.view
    ∙ all_shown-snoc (view c.args.pass.now.answers).put (told c.decide_by_board-answer.result) c.args.pass.now.shown c.decide_by_board-answer.result.shown
