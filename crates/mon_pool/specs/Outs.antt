-- The jobs that are out.
use Rattle.std.specs.Prelude.{List, map}
use Rattle.std.specs.Arc.{arc_value}
use Rattle.mon_job.specs.Jobs.{Task}
use Rattle.mon_pool.specs.declared.unanswered.Unanswered.{Unanswered}

abbrev pub out_of : Unanswered → List Task
out_of s = map arc_value s.jobs.items
