use Rattle.std.proofs.Common.{◌≡◌, ◌≤◌, ◌++◌, length, map, vec_len, vec_capacity, ap, ◌∙◌, arith}
use Rattle.crossbeam_queue.specs.Passes.{view, ruled_capacity}
use Rattle.mon_tally.specs.Tallies.{tally}
use Rattle.mon_pool.specs.Plain.{arc_job}
use Rattle.mon_tally.proofs.Counts.{takes, learns, finished, none_left}
use Rattle.mon_pool.proofs.closing.rest_of_jobs.Goals as goal

pub len_as-count-requires-clause-rule : goal.len_as-count-requires-clause-rule
len_as-count-requires-clause-rule g c = learns arc_job _ _ c.requires.queue.1

pub pop_as-requires-clause-rule : goal.pop_as-requires-clause-rule
pop_as-requires-clause-rule g c =
    let all : (view c.loop-i.pass).parts ≡ 65 = ap (λ v. v.parts) c.loop-i.invariant.view_is ∙ (ap (λ v. v.parts) c.len_as-count.ensures.queue.1 ∙ c.requires.queue.1) in
    (takes arc_job _ _ (omega arith), learns arc_job _ _ all)

pub push_reserved-requires : goal.push_reserved-requires
push_reserved-requires g c =
    let bound : c.len_as-count.result ≤ ruled_capacity c.args.queue.now = c.len_as-count.ensures.rule.0 in
    let cap : vec_capacity c.loop-i.into ≡ vec_capacity c.args.into.now = c.loop-i.invariant.room in
    let count : vec_len c.loop-i.into ≡ c.loop-i.i = c.loop-i.invariant.count in
    let room : ruled_capacity c.args.queue.now ≤ vec_capacity c.args.into.now = c.requires.room.1 in
    omega arith

pub returns-in-None-clause-rest : goal.returns-in-None-clause-rest
returns-in-None-clause-rest g c h =
    let is : view c.loop-i.pass ≡ tally (view c.args.pass.now).parts (view c.args.pass.now).put ((view c.args.pass.now).taken ++ map arc_job c.loop-i.into.items) (view c.args.pass.now).dropped =
    c.loop-i.invariant.view_is ∙ ap (λ u. tally u.parts u.put (u.taken ++ map arc_job c.loop-i.into.items) u.dropped) c.len_as-count.ensures.queue.1 in
    let held = c.in-None.ensures.rule.1 in
    finished arc_job (view c.args.pass.now) (view c.loop-i.pass) c.loop-i.into.items held.0 is held.1 held.2 h

pub learn_as-requires-clause-rule : goal.learn_as-requires-clause-rule
learn_as-requires-clause-rule g c =
    let all : (view c.loop-i.pass).parts ≡ 65 = ap (λ v. v.parts) c.loop-i.invariant.view_is ∙ (ap (λ v. v.parts) c.len_as-count.ensures.queue.1 ∙ c.requires.queue.1) in
    learns arc_job _ _ all

pub returns-clause-rest : goal.returns-clause-rest
returns-clause-rest g c h =
    let is : view c.loop-i.pass ≡ tally (view c.args.pass.now).parts (view c.args.pass.now).put ((view c.args.pass.now).taken ++ map arc_job c.loop-i.into.items) (view c.args.pass.now).dropped =
    c.loop-i.invariant.view_is ∙ ap (λ u. tally u.parts u.put (u.taken ++ map arc_job c.loop-i.into.items) u.dropped) c.len_as-count.ensures.queue.1 in
    let learned = c.learn_as.ensures.rule in
    let was = c.len_as-count.ensures.rule.1 in
    let count : vec_len c.loop-i.into ≡ c.loop-i.i = c.loop-i.invariant.count in
    let len : length c.loop-i.into.items ≡ length was.0 = omega (arith, was.1) in
    let none : length learned.0 ≡ 0 = none_left arc_job (view c.args.pass.now) (view c.loop-i.pass) c.loop-i.into.items was.0 learned.0 is len was.2 learned.1 in
    finished arc_job (view c.args.pass.now) (view c.loop-i.pass) c.loop-i.into.items learned.0 is none learned.1 h
