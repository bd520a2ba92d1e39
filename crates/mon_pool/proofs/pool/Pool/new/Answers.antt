use Rattle.std.proofs.Common.{rules, ◌≡◌, [], ◌+◌, ◌-◌, ap, ◌∙◌, arith}
use Rattle.std.proofs.lemmas.List.Elements.{All-push}
use Rattle.crossbeam_queue.specs.Passes.{view, IsPassOf}
use Rattle.mon_board.specs.Seats.{IsLookerOf}
use Rattle.mon_pool.specs.declared.pass.Pass.{Pass}
use Rattle.mon_tally.specs.Tallies.{tally}
use Rattle.mon_pool.specs.Plain.{told, arc_job}
use Rattle.mon_tally.proofs.Counts.{forks}
use Rattle.mon_pool.proofs.pool.Pool.new.Goals as goal

pub another-requires-clause-rule : goal.another-requires-clause-rule
another-requires-clause-rule c =
    let parts : (view c.loop-i.job_pass).parts ≡ 65 - c.loop-i.i = ap (λ v. v.parts) c.loop-i.invariant.jobs.1 in
    forks arc_job _ _ (omega arith)

pub another-requires-in-loop-i-clause-rule : goal.another-requires-in-loop-i-clause-rule
another-requires-in-loop-i-clause-rule c =
    let parts : (view c.loop-i.answer_pass).parts ≡ 65 - c.loop-i.i = ap (λ v. v.parts) c.loop-i.invariant.answers.1 in
    forks told _ _ (omega arith)

pub loop-i-preserved : goal.loop-i-preserved
loop-i-preserved c =
    let less : (65 - c.loop-i.i) - 1 ≡ 65 - (c.loop-i.i + 1) = omega arith in
    record {
      jobs = (search rules, c.another.ensures.rule.0 ∙ (ap (λ v. tally (v.parts - 1) v.put v.taken v.dropped) c.loop-i.invariant.jobs.1 ∙ ap (λ n. tally n [] [] []) less));
      answers = (search rules, c.another-in-loop-i.ensures.rule.0 ∙ (ap (λ v. tally (v.parts - 1) v.put v.taken v.dropped) c.loop-i.invariant.answers.1 ∙ ap (λ n. tally n [] [] []) less));
      looker = search rules;
      count = search rules;
      workers = rw c.in_ok-push-2.ensures.items (All-push (λ (p : Pass). IsPassOf c.in_ok-jobs.jobs p.jobs × IsPassOf c.in_ok-answers.answers p.answers × IsLookerOf c.in_ok-board.board p.looker) _ _ c.loop-i.invariant.workers (search rules, search rules, search rules));
    }
