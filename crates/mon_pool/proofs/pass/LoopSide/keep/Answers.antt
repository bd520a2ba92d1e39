use Rattle.std.proofs.Common.{◌≡◌, ◌++◌, [], ◌∷◌, map, List, ap, sym, subst, ◌∙◌}
use Rattle.std.proofs.lemmas.List.{map-append}
use Rattle.crossbeam_queue.specs.Passes.{view}
use Rattle.mon_job.specs.Jobs.{Task}
use Rattle.mon_tally.specs.Tallies.{AsOften}
use Rattle.mon_tally.proofs.Lists.{apart_none, often_more}
use Rattle.mon_pool.specs.Plain.{arc_job, jobs_of}
use Rattle.mon_pool.specs.Outs.{out_of}
use Rattle.mon_pool.proofs.pass.LoopSide.keep.Goals as goal

pub invariant_of-self-clause-apart : goal.invariant_of-self-clause-apart
invariant_of-self-clause-apart c = apart_none _ _ (ap jobs_of (c.args.self.now.whole c.requires.whole))

pub invariant_of-self-clause-rest : goal.invariant_of-self-clause-rest
invariant_of-self-clause-rest c =
    let old : List Task = map arc_job c.args.self.now.waiting.items in
    let w : map arc_job c.append.new.waiting.items ≡ old ++ c.args.mine.value ∷ [] =
    ap (map arc_job) c.append.ensures.items ∙ (map-append arc_job _ _ ∙ ap (λ (x : Task). old ++ x ∷ []) (sym c.requires.same)) in
    subst (λ (ws : List Task). AsOften ((view c.args.self.now.jobs).put ++ ws) (jobs_of (view c.args.self.now.answers).taken ++ out_of c.push.new.self)) (sym w)
    (subst (λ (os : List Task). AsOften ((view c.args.self.now.jobs).put ++ (old ++ c.args.mine.value ∷ [])) (jobs_of (view c.args.self.now.answers).taken ++ os)) (sym c.push.ensures.out)
    (often_more (view c.args.self.now.jobs).put old (jobs_of (view c.args.self.now.answers).taken) (out_of c.args.self.now.out) c.args.mine.value c.args.self.now.rest))
