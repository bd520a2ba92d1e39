use Rattle.std.proofs.Common.{ℕ, ◌<◌, sym, subst}
use Rattle.mon_tally.proofs.Counts.{puts, was_so}
use Rattle.mon_pool.specs.Plain.{arc_job}
use Rattle.mon_pool.proofs.looping.push_waiting.Goals as goal

pub push_as-requires-clause-rule : goal.push_as-requires-clause-rule
push_as-requires-clause-rule g c = (
  puts arc_job _ _ _ _ (subst (λ (n : ℕ). 0 < n) (sym c.loop-job.invariant.parts) c.requires.1),
  was_so arc_job _ _,
)
