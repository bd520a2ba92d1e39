use Rattle.std.proofs.Common.{◌≡◌, ◌≤◌, ◌++◌, map}
use Rattle.crossbeam_queue.specs.Passes.{view, IsSamePass}
use Rattle.std.specs.VecDeque.{deque_len, deque_capacity}
use Rattle.mon_pool.specs.Plain.{arc_job}
use Rattle.mon_pool.proofs.looping.push_waiting.Given as goal

abbrev pub invariant-loop-job : goal.invariant-loop-job
invariant-loop-job g l = record {
  pass : IsSamePass l.initial.pass l.pass;
  all : (view l.pass).put ++ map arc_job l.waiting.items ≡ (view l.initial.pass).put ++ map arc_job l.initial.waiting.items;
  taken : (view l.pass).taken ≡ (view l.initial.pass).taken;
  dropped : (view l.pass).dropped ≡ (view l.initial.pass).dropped;
  parts : (view l.pass).parts ≡ (view l.initial.pass).parts;
  capacity : deque_capacity l.waiting ≡ deque_capacity l.initial.waiting;
  fewer : deque_len l.waiting ≤ deque_len l.initial.waiting;
}

abbrev pub decreases-loop-job : goal.decreases-loop-job
decreases-loop-job g l = deque_len l.waiting
