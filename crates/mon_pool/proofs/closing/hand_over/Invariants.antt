use Rattle.std.proofs.Common.{◌≡◌, ◌≤◌, ◌+◌, ◌++◌, vec_len, vec_capacity}
use Rattle.std.specs.VecDeque.{deque_len}
use Rattle.mon_pool.proofs.closing.hand_over.Given as goal

abbrev pub invariant-loop-job : goal.invariant-loop-job
invariant-loop-job l = record {
  all : l.into.items ++ l.waiting.items ≡ l.initial.into.items ++ l.fn.waiting.items;
  room : vec_len l.into + deque_len l.waiting ≤ vec_capacity l.into;
}

abbrev pub decreases-loop-job : goal.decreases-loop-job
decreases-loop-job l = deque_len l.waiting
