use Rattle.std.proofs.Common.{◌≡◌, ◌++◌, map, vec_len, vec_capacity}
use Rattle.crossbeam_queue.specs.Passes.{view, IsPassOf}
use Rattle.mon_tally.specs.Tallies.{tally}
use Rattle.mon_pool.specs.Plain.{arc_job}
use Rattle.mon_pool.proofs.closing.rest_of_jobs.Given as goal

abbrev pub invariant-loop-i : goal.invariant-loop-i
invariant-loop-i g l = record {
  pass : IsPassOf l.queue l.pass;
  view_is : view l.pass ≡ tally (view l.initial.pass).parts (view l.initial.pass).put ((view l.initial.pass).taken ++ map arc_job l.into.items) (view l.initial.pass).dropped;
  count : vec_len l.into ≡ l.i;
  room : vec_capacity l.into ≡ vec_capacity l.initial.into;
}
