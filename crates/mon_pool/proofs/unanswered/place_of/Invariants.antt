use Rattle.std.proofs.Common.{◌≢◌, ℕ, ◌<◌, slice_index_or}
use Rattle.std.specs.Arc.{arc_value}
use Rattle.mon_pool.proofs.unanswered.place_of.Given as goal

-- none of those before is the job
abbrev pub invariant-loop-k : goal.invariant-loop-k
invariant-loop-k l = (i : ℕ) (d : _) → i < l.k → arc_value (slice_index_or l.out i d) ≢ l.job
