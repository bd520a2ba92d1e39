-- What clauses say of a pool, its side and its passes.
use Rattle.std.specs.Prelude.{◌≡◌, ℕ, ◌+◌, List, ◌++◌, map}
use Rattle.crossbeam_queue.specs.Passes.{view, IsPassOf}
use Rattle.mon_board.specs.Versions.{Marks}
use Rattle.mon_board.specs.Seats.{IsWriterOf, IsLookerOf, published_by, seen_by}
use Rattle.mon_job.specs.Jobs.{Task}
use Rattle.mon_job.specs.Verdicts.{Ruling}
use Rattle.mon_pool.specs.declared.pass.LoopSide.{LoopSide}
use Rattle.mon_pool.specs.declared.pass.Pass.{Pass}
use Rattle.mon_pool.specs.declared.pool.Pool.{Pool}
use Rattle.mon_pool.specs.Outs.{out_of}
use Rattle.mon_pool.specs.Plain.{arc_job, jobs_of}

-- the jobs that stay with the side, since the queue was full
abbrev pub waiting_of : LoopSide → List Task
waiting_of s = map arc_job s.waiting.items

-- the jobs that the side offered
abbrev pub offered_by : LoopSide → List Task
offered_by s = (view s.jobs).put ++ waiting_of s

-- the jobs whose verdicts it took
abbrev pub answered_by : LoopSide → List Task
answered_by s = jobs_of (view s.answers).taken

-- the jobs without a verdict, in the order in which they were offered
abbrev pub unanswered_of : LoopSide → List Task
unanswered_of s = out_of s.out

-- the number of the last job that was offered
abbrev pub last_of : LoopSide → ℕ
last_of s = s.out.last

-- what it published, oldest first
abbrev pub published_of : LoopSide → Marks
published_of s = published_by s.published.writer

-- the last version of each slot
abbrev pub versions_of : LoopSide → List ℕ
versions_of s = s.published.versions.items

-- the answers that came and were dropped
abbrev pub dropped_by : LoopSide → List (Ruling × Marks)
dropped_by s = (view s.answers).dropped

-- the jobs that the worker took
abbrev pub jobs_taken_by : Pass → List Task
jobs_taken_by p = (view p.jobs).taken

-- the verdicts that it gave, each with what its looker saw meanwhile
abbrev pub answers_of : Pass → List (Ruling × Marks)
answers_of p = (view p.answers).put

-- what its looker saw
abbrev pub seen_of : Pass → Marks
seen_of p = seen_by p.looker

abbrev pub IsSideOf : Pool → LoopSide → Type 0
IsSideOf pool s = IsPassOf pool.jobs s.jobs × IsPassOf pool.answers s.answers × IsWriterOf pool.board s.published.writer × ((view s.jobs).parts + pool.workers ≡ 65)

abbrev pub IsWorkerOf : Pool → Pass → Type 0
IsWorkerOf pool p = IsPassOf pool.jobs p.jobs × IsPassOf pool.answers p.answers × IsLookerOf pool.board p.looker
