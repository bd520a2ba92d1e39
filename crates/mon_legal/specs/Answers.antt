-- The answers to jobs, and the frames of probes.
use Rattle.std.specs.Prelude.{ℕ, Bool, true, false, ◌==◌, ◌&&◌, if◌then◌else◌, List, [], ◌∷◌, Option, Some, None, is_none}
use Rattle.mon_outcome.specs.declared.emission.Emission.{Emission}
use Rattle.mon_world.specs.declared.event.Note.TheVariants.{Verdict, Probe}
use Rattle.mon_world.specs.declared.history.Entry.TheVariants.{Noted}
use Rattle.mon_legal.specs.Runs.{Run}
use Rattle.mon_legal.specs.Directly.{job_stands}
use Rattle.mon_legal.specs.Moments.{Moment, begins}
use Rattle.mon_legal.specs.Moments.Moment.{Is, Went}
use Rattle.mon_legal.specs.Jobs.{Job, job_of}
use Rattle.mon_legal.specs.Sessions.{part, is_open, version}

-- the session is there, the edit is unsettled or the watch still stands, and the offer's version is the slot's
abbrev pub is_current : Run → List Moment → Job → Bool
is_current run f job =
    is_open (part run job.session f)
    && (job_stands run (part run job.session f) job.number job.edit && (job.version == version run job.session f))

abbrev pub current_in : Run → List Moment → Option Job → Option Job
current_in run f None = None
current_in run f (Some job) = if is_current run f job then Some job else None

-- the job of a number, where an answer to it is current now
abbrev pub current : Run → List Moment → ℕ → Option Job
current run f number = current_in run f (job_of number f)

-- the turn began with an answer that was stale
abbrev pub is_stale : Run → List Moment → Moment → Bool
is_stale run f (Is (Noted (Verdict job kind))) = is_none (current run f job)
is_stale run f m = false

abbrev pub in_stale_turn : Run → List Moment → Bool
in_stale_turn run [] = false
in_stale_turn run (m ∷ f) = if begins m then is_stale run f m else in_stale_turn run f

-- the probe of a serial as it went out first: to the switch of which session, in which frame, and with which emission
pub record Sent : Type 0 where
  pub session : ℕ
  pub frame : List ℕ
  pub emission : Emission

abbrev pub sent_if : Bool → ℕ → List ℕ → Emission → Option Sent → Option Sent
sent_if true r frame e later = Some (record { session = r; frame = frame; emission = e })
sent_if false r frame e later = later

abbrev pub sent : ℕ → List Moment → Option Sent
sent n [] = None
sent n (Went s m near frame lost ∷ Is (Noted (Probe serial job e)) ∷ f) = sent_if (m == n) near frame e (sent n f)
sent n (m ∷ f) = sent n f
