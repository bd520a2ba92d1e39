-- Which probes go out: each separates the expected table from the one without its update.
use Rattle.std.specs.Prelude.{◌≡◌, ℕ, ◌+◌, true, List, ◌∷◌, Some, IsSome}
use Rattle.mon_outcome.specs.declared.emission.Emission.{Emission}
use Rattle.mon_shows.specs.declared.near.Near.{Near}
use Rattle.mon_shows.specs.Links.{link_at}
use Rattle.mon_shows.specs.declared.target.Target.{Target}
use Rattle.mon_shows.specs.Separation.{separates}
use Rattle.mon_legal.specs.Targets.{target_of_job, table_for}
use Rattle.mon_world.specs.declared.event.Kind.{Kind}
use Rattle.mon_world.specs.declared.event.Kind.TheVariants as kind
use Rattle.mon_world.specs.declared.event.Note.TheVariants.{Verdict, Probe}
use Rattle.mon_world.specs.declared.history.Entry.TheVariants.{Noted}
use Rattle.mon_legal.specs.Runs.{Run}
use Rattle.mon_legal.specs.Messages.{probe_frame, header_of_probe}
use Rattle.mon_legal.specs.Edits.{expected}
use Rattle.mon_legal.specs.Datapaths.{catching}
use Rattle.mon_legal.specs.Moments.{Moment}
use Rattle.mon_legal.specs.Moments.Moment.{Is, Went}
use Rattle.mon_legal.specs.Jobs.{Job, job_of, last_serial}
use Rattle.mon_legal.specs.Sessions.{part, parts_of, open_with_slot, session_with, view}
use Rattle.mon_legal.specs.Answers.{current}
use Rattle.mon_legal.specs.Lines.{Line, Always}

-- the current answer that was just given
abbrev pub JustAnswered : Run → List Moment → ℕ → Kind → Type 0
JustAnswered run (Is (Noted (Verdict answered given)) ∷ f) job wanted = (answered ≡ job) × (given ≡ wanted) × IsSome (current run f job)
JustAnswered run f job wanted = ⊥

-- a note of a probe stands directly behind the current answer that gives it, and serials follow one another
abbrev pub NoteStands : Run → List Moment → Moment → Type 0
NoteStands run f (Is (Noted (Probe serial job e))) = JustAnswered run f job kind.Probe × (serial ≡ last_serial run f + 1)
NoteStands run f m = Unit {0}

-- the frame is the probe of the serial, and goes to the neighbour's switch at the port where its header comes in. Its header
-- and emission separate, in the view, the expected table from the one without the update
pub record IsProbe (run : Run) (f : List Moment) (serial : ℕ) (e : Emission) (job : Job) (r : ℕ) (frame : List ℕ) : Type 0 where
  pub target : Target
  pub asked : target_of_job run (view run job.session f) (part run job.session f) job.edit ≡ Some target
  pub near : Near
  pub linked : link_at (header_of_probe frame e).in_port (view run job.session f).links ≡ Some near
  pub there : session_with (parts_of run f) (open_with_slot run f) near.switch ≡ Some r
  pub bytes : frame ≡ probe_frame run.key serial near.far_port (header_of_probe frame e)
  pub separating : separates (view run job.session f)
      (table_for (expected (catching run (part run job.session f)) (part run job.session f)) target) target (header_of_probe frame e) e ≡ true

-- the next entry outputs that frame
abbrev pub Goes : Run → List Moment → ℕ → ℕ → Emission → Moment → Type 0
Goes run f serial job e (Went s sent near frame lost) =
    (sent ≡ serial) × (j : Job) × (job_of job f ≡ Some j) × (s ≡ j.session) × IsProbe run f serial e j near frame
Goes run f serial job e m = ⊥

abbrev pub NoteIsFollowed : Run → List Moment → Moment → Type 0
NoteIsFollowed run (Is (Noted (Probe serial job e)) ∷ f) m = Goes run f serial job e m
NoteIsFollowed run f m = Unit {0}

abbrev pub ProbesSeparate : Run → List Moment → Type 0
ProbesSeparate run f = Line (λ before m. NoteStands run before m × NoteIsFollowed run before m) Always f
