-- Once all passes are in one, what was pushed is what was popped and what is left, for both queues, and the workers' lists
-- tie the two.
use Rattle.std.proofs.Common.{◌≡◌, ◌+◌, [], ◌∷◌, ◌++◌, map, ℕ, List, refl, sym, ap, ◌∙◌, subst, arith}
use Rattle.std.proofs.lemmas.List.{map-append}
use Rattle.crossbeam_queue.specs.Passes.{view}
use Rattle.mon_board.specs.Versions.{Marks}
use Rattle.mon_job.specs.Jobs.{Task}
use Rattle.mon_job.specs.Verdicts.{Ruling}
use Rattle.mon_job.specs.contracts.job.Job.{the_row}
use Rattle.mon_tally.specs.declared.counted.Tally.{Tally}
use Rattle.mon_tally.specs.Tallies.{popped, weigh, AsOften}
use Rattle.mon_tally.proofs.Counts.{weigh-append}
use Rattle.mon_tally.proofs.Closing.{none_dropped, all_accounted}
use Rattle.mon_pool.specs.declared.answer.Answer.{Answer}
use Rattle.mon_pool.specs.Plain.{told, arc_job, job_of, jobs_of, verdict_of, ruled_jobs}
use Rattle.mon_pool.specs.Outs.{out_of}
use Rattle.mon_pool.specs.Places.{offered_by, answered_by}
use Rattle.mon_pool.proofs.pool.Pool.close.Goals as goal

jobs_balance : (before after : Tally Task) (left : List Task) → after.put ≡ before.put → after.dropped ≡ before.dropped → before.dropped ≡ []
    → ((h : Task → ℕ) → weigh h after.put ≡ popped h after + weigh h left) → (h : Task → ℕ) → weigh h before.put ≡ weigh h after.taken + weigh h left
jobs_balance before after left put dropped none rest h =
    let a : weigh h after.put ≡ weigh h before.put = ap (weigh h) put in
    let b : weigh h after.dropped ≡ 0 = ap (weigh h) (dropped ∙ none) in
    let r : weigh h after.put ≡ popped h after + weigh h left = rest h in
    omega arith

answers_balance : (before after : Tally (Ruling × Marks)) (left : List (Ruling × Marks)) → after.taken ≡ before.taken → after.dropped ≡ before.dropped
    → ((h : Ruling × Marks → ℕ) → weigh h after.put ≡ popped h after + weigh h left) → (h : Ruling × Marks → ℕ) → weigh h after.put ≡ (weigh h before.taken + weigh h before.dropped) + weigh h left
answers_balance before after left taken dropped rest h =
    let a : weigh h after.taken ≡ weigh h before.taken = ap (weigh h) taken in
    let b : weigh h after.dropped ≡ weigh h before.dropped = ap (weigh h) dropped in
    let r : weigh h after.put ≡ popped h after + weigh h left = rest h in
    omega arith

parted : (offered answered out : List Task) → AsOften offered (answered ++ out) → (h : Task → ℕ) → weigh h offered ≡ weigh h answered + weigh h out
parted offered answered out e h = let a : weigh h offered ≡ weigh h (answered ++ out) = e h in omega (arith, weigh-append h answered out)

ruled : (answers : List Answer) → ruled_jobs (map verdict_of answers) ≡ map job_of (map told answers)
ruled [] = refl
ruled (a ∷ more) = ap (λ l. a.verdict.job ∷ l) (ruled more)

pub take_in-requires-clause-tied : goal.take_in-requires-clause-tied
take_in-requires-clause-tied g c = ap jobs_of c.args.side.answer_role ∙ sym c.args.side.job_role.0

pub returns-clause-dropped : goal.returns-clause-dropped
returns-clause-dropped g c =
    none_dropped the_row.coded job_of (view c.args.side.jobs).put (map arc_job c.args.side.waiting.items) (view c.take_in.new.jobs).taken (map arc_job c.rest_of_jobs.new.into.items) (out_of c.args.side.out)
    (view c.args.side.answers).taken (view c.args.side.answers).dropped (map told c.rest_of_answers.new.into.items) (view c.take_in.new.answers).put
    (jobs_balance (view c.args.side.jobs) (view c.take_in.new.jobs) (map arc_job c.rest_of_jobs.new.into.items) c.take_in.ensures.kept.0 c.take_in.ensures.kept.1 c.args.side.job_role.1 c.rest_of_jobs.ensures.rest)
    (answers_balance (view c.args.side.answers) (view c.take_in.new.answers) (map told c.rest_of_answers.new.into.items) c.take_in.ensures.kept.2 c.take_in.ensures.kept.3 c.rest_of_answers.ensures.rest)
    c.take_in.ensures.tied
    (parted (offered_by c.args.side) (answered_by c.args.side) (out_of c.args.side.out) c.args.side.rest)
    c.args.side.apart

pub returns-clause-accounted : goal.returns-clause-accounted
returns-clause-accounted g c =
    let none = returns-clause-dropped g c in
    let whole : AsOften (offered_by c.args.side) ((answered_by c.args.side ++ map job_of (map told c.rest_of_answers.new.into.items)) ++ (map arc_job c.rest_of_jobs.new.into.items ++ map arc_job c.args.side.waiting.items)) =
    all_accounted job_of (view c.args.side.jobs).put (map arc_job c.args.side.waiting.items) (view c.take_in.new.jobs).taken (map arc_job c.rest_of_jobs.new.into.items)
    (view c.args.side.answers).taken (view c.args.side.answers).dropped (map told c.rest_of_answers.new.into.items) (view c.take_in.new.answers).put none
    (jobs_balance (view c.args.side.jobs) (view c.take_in.new.jobs) (map arc_job c.rest_of_jobs.new.into.items) c.take_in.ensures.kept.0 c.take_in.ensures.kept.1 c.args.side.job_role.1 c.rest_of_jobs.ensures.rest)
    (answers_balance (view c.args.side.answers) (view c.take_in.new.answers) (map told c.rest_of_answers.new.into.items) c.take_in.ensures.kept.2 c.take_in.ensures.kept.3 c.rest_of_answers.ensures.rest)
    c.take_in.ensures.tied in
    let verdicts : ruled_jobs c.verdicts_of.new.into.items ≡ map job_of (map told c.rest_of_answers.new.into.items) = ap ruled_jobs c.verdicts_of.ensures ∙ ruled c.rest_of_answers.new.into.items in
    let jobs : map arc_job c.hand_over.new.into.items ≡ map arc_job c.rest_of_jobs.new.into.items ++ map arc_job c.args.side.waiting.items =
    ap (map arc_job) c.hand_over.ensures ∙ map-append arc_job c.rest_of_jobs.new.into.items c.args.side.waiting.items in
    subst (λ (vs : List Task). AsOften (offered_by c.args.side) ((answered_by c.args.side ++ vs) ++ map arc_job c.hand_over.new.into.items)) (sym (ap ruled_jobs c.of.ensures ∙ verdicts))
    (subst (λ (js : List Task). AsOften (offered_by c.args.side) ((answered_by c.args.side ++ map job_of (map told c.rest_of_answers.new.into.items)) ++ js)) (sym jobs) whole)
