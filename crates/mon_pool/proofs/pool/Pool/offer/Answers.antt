use Rattle.std.proofs.Common.{List, ◌++◌, sym, subst}
use Rattle.crossbeam_queue.specs.Passes.{view}
use Rattle.mon_job.specs.Jobs.{Task}
use Rattle.mon_tally.specs.Tallies.{AsOften}
use Rattle.mon_pool.specs.Plain.{jobs_of}
use Rattle.mon_pool.specs.Outs.{out_of}
use Rattle.mon_pool.proofs.pool.Pool.offer.Goals as goal

pub invariant_of-side-clause-rest : goal.invariant_of-side-clause-rest
invariant_of-side-clause-rest g c = subst (λ (l : List Task). AsOften l (jobs_of (view c.keep.new.self.answers).taken ++ out_of c.keep.new.self.out)) (sym c.push_waiting.ensures.all) c.keep.new.self.rest
