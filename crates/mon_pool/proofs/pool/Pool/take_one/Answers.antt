use Rattle.std.proofs.Common.{◌≡◌, ◌<◌, ◌≤◌, ℕ, List, [], ◌∷◌, ◌++◌, vec_capacity, true≢false, sym, ap, ◌∙◌, subst}
use Rattle.std.proofs.lemmas.List.{map-append}
use Rattle.std.specs.VecDeque.{deque_len, deque_capacity}
use Rattle.crossbeam_queue.specs.Passes.{view}
use Rattle.mon_board.specs.Versions.{Marks}
use Rattle.mon_list.specs.Has.{Has}
use Rattle.mon_job.specs.Jobs.{Task}
use Rattle.mon_job.specs.Verdicts.{Ruling}
use Rattle.mon_tally.specs.declared.counted.Tally.{Tally}
use Rattle.mon_tally.specs.Tallies.{AsOften, Apart, tally, dropping}
use Rattle.mon_tally.proofs.Counts.{takes, drops, was_so, dropping_last}
use Rattle.mon_tally.proofs.Lists.{apart_less, apart_snoc, often_moved}
use Rattle.mon_pool.specs.Plain.{told, job_of, jobs_of}
use Rattle.mon_pool.specs.Outs.{out_of}
use Rattle.mon_pool.specs.declared.unanswered.Unanswered.{Unanswered}
use Rattle.mon_pool.specs.Places.{offered_by}
use Rattle.mon_pool.proofs.pool.Pool.take_one.Goals as goal

pub pop_as-requires-clause-rule : goal.pop_as-requires-clause-rule
pop_as-requires-clause-rule g c = (takes told _ _ (subst (λ (n : ℕ). 0 < n) (sym c.args.side.now.parts.1) c.args.side.now.parts.0), was_so told _ _)

pub another-requires-clause-rule : goal.another-requires-clause-rule
another-requires-clause-rule g c = drops told _ _ (subst (λ (n : ℕ). 0 < n) (ap (λ v. v.parts) (sym c.in-Some.ensures.rule)) (subst (λ (n : ℕ). 0 < n) (sym c.args.side.now.parts.1) c.args.side.now.parts.0))

pub invariant_of-side-in-Some-strike : goal.invariant_of-side-in-Some-strike
invariant_of-side-in-Some-strike g c =
    let taken : List (Ruling × Marks) = (view c.args.side.now.answers).taken in
    let dropped : List (Ruling × Marks) = (view c.args.side.now.answers).dropped in
    let is : c.job.result.now ≡ c.in-Some.answer.verdict.job = c.job.ensures.value ∙ ap (λ (v : Ruling). v.job) c.into_verdict-verdict.ensures in
    let jobs : jobs_of (view c.pop_as.new.pass).taken ≡ jobs_of taken ++ c.job.result.now ∷ [] =
    ap (λ v. jobs_of v.taken) c.in-Some.ensures.rule ∙ (map-append job_of taken (told c.in-Some.answer ∷ []) ∙ ap (λ (x : Task). jobs_of taken ++ x ∷ []) (sym is)) in
    record {
      home = (c.args.side.now.home.0, c.in-Some.ensures.queue.2 ∙ c.args.side.now.home.1);
      job_role = c.args.side.now.job_role;
      answer_role = ap (λ w. w.put) c.in-Some.ensures.rule ∙ c.args.side.now.answer_role;
      parts = (c.args.side.now.parts.0, ap (λ w. w.parts) c.in-Some.ensures.rule ∙ c.args.side.now.parts.1);
      whole = λ e. ap (λ w. w.dropped) c.in-Some.ensures.rule ∙ c.args.side.now.whole e;
      apart = subst (λ (ds : List (Ruling × Marks)). Apart (jobs_of ds) (out_of c.strike.new.self)) (sym (ap (λ v. v.dropped) c.in-Some.ensures.rule))
          (subst (λ (os : List Task). Apart (jobs_of dropped) os) (sym c.in-Some-strike.ensures.left) (apart_less (jobs_of dropped) (out_of c.args.side.now.out) _ c.args.side.now.apart));
      rest = subst (λ (l : List Task). AsOften (offered_by c.args.side.now) (l ++ out_of c.strike.new.self)) (sym jobs)
          (often_moved (offered_by c.args.side.now) (jobs_of taken) (out_of c.args.side.now.out) (out_of c.strike.new.self) c.job.result.now c.args.side.now.rest c.in-Some-strike.ensures.weight);
      rooms = (subst (λ (n : ℕ). 1024 ≤ n) (sym c.strike.ensures.room) c.args.side.now.rooms.0, c.args.side.now.rooms.1, c.args.side.now.rooms.2);
      empty = c.args.side.now.empty;
      enough = c.args.side.now.enough;
    }

pub invariant_of-side-in_default-strike : goal.invariant_of-side-in_default-strike
invariant_of-side-in_default-strike g c =
    let v : Tally (Ruling × Marks) = view c.args.side.now.answers in
    let t : Ruling × Marks = told c.in-Some.answer in
    let after : view c.another.new.pass ≡ tally v.parts v.put v.taken (v.dropped ++ t ∷ []) =
    c.another.ensures.rule.0 ∙ (ap dropping c.in-Some.ensures.rule ∙ dropping_last v.parts v.put v.taken v.dropped t) in
    let unchanged : c.strike.new.self ≡ c.args.side.now.out = c.in_default-strike.ensures.unchanged in
    let absent : Has (out_of c.args.side.now.out) c.job.result.now → ⊥ = c.in_default-strike.ensures.absent in
    let is : c.job.result.now ≡ t.0.job = c.job.ensures.value ∙ ap (λ (r : Ruling). r.job) c.into_verdict-verdict.ensures in
    let apart : Apart (jobs_of v.dropped ++ t.0.job ∷ []) (out_of c.args.side.now.out) =
    apart_snoc (jobs_of v.dropped) (out_of c.args.side.now.out) t.0.job c.args.side.now.apart (subst (λ (j : Task). Has (out_of c.args.side.now.out) j → ⊥) is absent) in
    record {
      home = (c.args.side.now.home.0, c.another.ensures.queue.0.2 ∙ (c.in-Some.ensures.queue.2 ∙ c.args.side.now.home.1));
      job_role = c.args.side.now.job_role;
      answer_role = ap (λ w. w.put) after ∙ c.args.side.now.answer_role;
      parts = (c.args.side.now.parts.0, ap (λ w. w.parts) after ∙ c.args.side.now.parts.1);
      whole = λ e. absurd (true≢false e);
      apart = subst (λ (ds : List (Ruling × Marks)). Apart (jobs_of ds) (out_of c.strike.new.self)) (sym (ap (λ w. w.dropped) after))
          (subst (λ (js : List Task). Apart js (out_of c.strike.new.self)) (sym (map-append job_of v.dropped (t ∷ [])))
          (subst (λ (o : Unanswered). Apart (jobs_of v.dropped ++ t.0.job ∷ []) (out_of o)) (sym unchanged) apart));
      rest = subst (λ (w : Tally (Ruling × Marks)). AsOften (offered_by c.args.side.now) (jobs_of w.taken ++ out_of c.strike.new.self)) (sym after)
          (subst (λ (o : Unanswered). AsOften (offered_by c.args.side.now) (jobs_of v.taken ++ out_of o)) (sym unchanged) c.args.side.now.rest);
      rooms = subst (λ (o : Unanswered). (1024 ≤ vec_capacity o.jobs) × (1024 ≤ deque_capacity c.args.side.now.waiting) × (deque_len c.args.side.now.waiting ≤ 1024)) (sym unchanged) c.args.side.now.rooms;
      empty = c.args.side.now.empty;
      enough = c.args.side.now.enough;
    }
