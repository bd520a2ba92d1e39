-- The jobs of a history, and the numbers that it uses.
use Rattle.std.specs.Prelude.{ℕ, Bool, not, ◌==◌, List, [], ◌∷◌, ◌++◌, filter, find, Option}
use Rattle.std.specs.List.{list_any}
use Rattle.mon_world.specs.declared.event.Note.TheVariants.{Offer, Verdict, Probe}
use Rattle.mon_world.specs.declared.history.Entry.TheVariants.{Given, Noted}
use Rattle.mon_world.specs.Logs.{opened_by}
use Rattle.mon_legal.specs.Runs.{Run}
use Rattle.mon_legal.specs.Moments.{Moment}
use Rattle.mon_legal.specs.Moments.Moment.{Is}

-- an offer
pub record Job : Type 0 where
  pub number : ℕ
  pub session : ℕ
  pub edit : ℕ
  pub version : ℕ

-- all jobs, the newest first
abbrev pub jobs : List Moment → List Job
jobs [] = []
jobs (Is (Noted (Offer number session edit version)) ∷ f) =
    record { number = number; session = session; edit = edit; version = version } ∷ jobs f
jobs (m ∷ f) = jobs f

-- the job of a number
abbrev pub job_of : ℕ → List Moment → Option Job
job_of number f = find (λ j. j.number == number) (jobs f)

-- those without an answer, in the order of their offers
abbrev pub unanswered : List Moment → List Job
unanswered [] = []
unanswered (Is (Noted (Offer number session edit version)) ∷ f) =
    unanswered f ++ record { number = number; session = session; edit = edit; version = version } ∷ []
unanswered (Is (Noted (Verdict number kind)) ∷ f) = filter (λ j. not (j.number == number)) (unanswered f)
unanswered (m ∷ f) = unanswered f

-- the job of a number has no answer yet
abbrev pub is_unanswered : ℕ → List Moment → Bool
is_unanswered number f = list_any (λ j. j.number == number) (unanswered f)

-- how many sessions were opened, and the serial and the job number that were used last
abbrev pub openings : Run → List Moment → ℕ
openings run [] = run.openings
openings run (Is (Given event) ∷ f) = opened_by event (openings run f)
openings run (m ∷ f) = openings run f

abbrev pub last_serial : Run → List Moment → ℕ
last_serial run [] = run.last_serial
last_serial run (Is (Noted (Probe serial job emission)) ∷ f) = serial
last_serial run (m ∷ f) = last_serial run f

abbrev pub last_job : Run → List Moment → ℕ
last_job run [] = run.last_job
last_job run (Is (Noted (Offer job session edit version)) ∷ f) = job
last_job run (m ∷ f) = last_job run f
