use Rattle.std.proofs.Common.{◌≢◌, ◌<◌, ℕ, length, slice_index_or, subst}
use Rattle.std.specs.Arc.{arc_value}
use Rattle.mon_pool.proofs.Striking.{Jobs, At, left_rise, was_there, left_out, left_weight, not_there}
use Rattle.mon_pool.proofs.unanswered.Unanswered.strike.Goals as goal

pub invariant_of-self : goal.invariant_of-self
invariant_of-self c = record { rising = left_rise c.args.self.now.jobs.items _ c.args.self.now.last c.in-Some.k c.remove.ensures.items c.args.self.now.rising }

pub returns-in-Some-clause-there : goal.returns-in-Some-clause-there
returns-in-Some-clause-there c =
    let at : At c.args.self.now.jobs.items c.in-Some.k c.args.job.now = subst (λ (l : Jobs). At l c.in-Some.k c.args.job.now) c.as_slice.ensures.value c.in-Some.ensures.some in
    was_there c.args.self.now.jobs.items c.in-Some.k c.args.job.now at c.remove.result

pub returns-in-Some-clause-left : goal.returns-in-Some-clause-left
returns-in-Some-clause-left c =
    let at : At c.args.self.now.jobs.items c.in-Some.k c.args.job.now = subst (λ (l : Jobs). At l c.in-Some.k c.args.job.now) c.as_slice.ensures.value c.in-Some.ensures.some in
    left_out c.args.self.now.jobs.items _ c.args.self.now.last c.in-Some.k c.args.job.now at c.remove.result c.remove.ensures.items c.args.self.now.rising

pub returns-in-Some-clause-weight : goal.returns-in-Some-clause-weight
returns-in-Some-clause-weight c =
    let at : At c.args.self.now.jobs.items c.in-Some.k c.args.job.now = subst (λ (l : Jobs). At l c.in-Some.k c.args.job.now) c.as_slice.ensures.value c.in-Some.ensures.some in
    left_weight c.args.self.now.jobs.items _ c.in-Some.k c.args.job.now at c.remove.result c.remove.ensures.items

pub returns-in-None-clause-absent : goal.returns-in-None-clause-absent
returns-in-None-clause-absent c =
    not_there c.args.self.now.jobs.items c.args.job.now
    (subst (λ (l : Jobs). (k : ℕ) (d : _) → k < length l → arc_value (slice_index_or l k d) ≢ c.args.job.now) c.as_slice.ensures.value c.in-None.ensures.none)
