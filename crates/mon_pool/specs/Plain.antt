-- Jobs and answers as plain records.
use Rattle.std.specs.Prelude.{List, map}
use Rattle.std.specs.Arc.{arc_value}
use Rattle.std.specs.Global.{Global}
use Rattle.std.specs.declared.sync.Arc.{Arc}
use Rattle.mon_board.specs.Versions.{Marks}
use Rattle.mon_board.specs.Seats.{seen_by}
use Rattle.mon_job.specs.Jobs.{Task}
use Rattle.mon_job.specs.Verdicts.{Ruling}
use Rattle.mon_pool.specs.declared.answer.Answer.{Answer}

-- the job behind an `Arc`
abbrev pub arc_job : Arc Task Global → Task
arc_job a = arc_value a

abbrev pub verdict_of : Answer → Ruling
verdict_of a = a.verdict

-- a verdict, and what was seen while it was decided
abbrev pub told : Answer → Ruling × Marks
told a = (a.verdict, seen_by a.saw.value)

abbrev pub job_of : Ruling × Marks → Task
job_of t = t.0.job

-- the jobs of these, in order
abbrev pub jobs_of : List (Ruling × Marks) → List Task
jobs_of ts = map job_of ts

abbrev pub ruled_jobs : List Ruling → List Task
ruled_jobs rs = map (λ (r : Ruling). r.job) rs
