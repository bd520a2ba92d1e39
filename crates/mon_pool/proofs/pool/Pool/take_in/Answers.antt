use Rattle.std.proofs.Common.{rules, ◌≡◌, ◌+◌, ◌<◌, All, sym, ◌∙◌, subst, arith}
use Rattle.std.proofs.lemmas.List.Elements.{All-push}
use Rattle.crossbeam_queue.specs.Passes.{view}
use Rattle.mon_board.specs.Seats.{published_by}
use Rattle.mon_board.specs.Versions.{AllPublished}
use Rattle.mon_tally.proofs.Lists.{all_last, all_front}
use Rattle.mon_pool.specs.declared.pass.Pass.{Pass}
use Rattle.mon_pool.specs.Places.{IsWorkerOf, seen_of}
use Rattle.mon_pool.proofs.pool.Pool.take_in.Goals as goal

pub take_in_one-requires-clause-worker : goal.take_in_one-requires-clause-worker
take_in_one-requires-clause-worker c = all_last (IsWorkerOf c.args.self.now) c.loop-i.passes.items c.pop.new.self.items c.in-Some.pass c.in-Some.ensures.items c.loop-i.invariant.workers

pub take_in_one-requires-clause-parts : goal.take_in_one-requires-clause-parts
take_in_one-requires-clause-parts c =
    let jobs : (view c.loop-i.jobs).parts ≡ (view c.args.jobs.now).parts + c.loop-i.i = c.loop-i.invariant.job_parts in
    let answers : (view c.loop-i.answers).parts ≡ (view c.args.answers.now).parts + c.loop-i.i = c.loop-i.invariant.answer_parts in
    let some_jobs : 0 < (view c.args.jobs.now).parts = c.requires.parts.0 in
    let some_answers : 0 < (view c.args.answers.now).parts = c.requires.parts.1 in
    (omega arith, omega arith)

pub loop-i-preserved : goal.loop-i-preserved
loop-i-preserved c =
    let jobs : (view c.loop-i.jobs).parts ≡ (view c.args.jobs.now).parts + c.loop-i.i = c.loop-i.invariant.job_parts in
    let answers : (view c.loop-i.answers).parts ≡ (view c.args.answers.now).parts + c.loop-i.i = c.loop-i.invariant.answer_parts in
    let more_jobs : (view c.take_in_one.new.jobs).parts ≡ (view c.loop-i.jobs).parts + 1 = c.take_in_one.ensures.job_parts in
    let more_answers : (view c.take_in_one.new.answers).parts ≡ (view c.loop-i.answers).parts + 1 = c.take_in_one.ensures.answer_parts in
    record {
      places = c.take_in_one.ensures.places;
      workers = all_front (IsWorkerOf c.args.self.now) c.loop-i.passes.items c.pop.new.self.items c.in-Some.pass c.in-Some.ensures.items c.loop-i.invariant.workers;
      count = search rules;
      job_parts = omega arith;
      answer_parts = omega arith;
      kept_jobs = (c.take_in_one.ensures.kept_jobs.0 ∙ c.loop-i.invariant.kept_jobs.0, c.take_in_one.ensures.kept_jobs.1 ∙ c.loop-i.invariant.kept_jobs.1);
      kept_answers = (c.take_in_one.ensures.kept_answers.0 ∙ c.loop-i.invariant.kept_answers.0, c.take_in_one.ensures.kept_answers.1 ∙ c.loop-i.invariant.kept_answers.1);
      tied = c.take_in_one.ensures.tied;
      published = c.take_in_one.ensures.published ∙ c.loop-i.invariant.published;
      shown = λ rest.
          let P : Pass → Type 0 = λ (p : Pass). AllPublished (published_by c.args.writer.now) (seen_of p) in
          let last : P c.in-Some.pass = subst (λ l. AllPublished l (seen_of c.in-Some.pass)) c.loop-i.invariant.published c.take_in_one.ensures.seen in
          c.loop-i.invariant.shown (subst (λ l. All P l) (sym c.in-Some.ensures.items) (All-push P c.pop.new.self.items c.in-Some.pass rest last));
    }
