-- What an answer to a job makes of a session.
use Rattle.std.specs.Prelude.{ℕ, Bool, ◌==◌, ◌&&◌, if◌then◌else◌, List, [], ◌∷◌, ◌++◌, find, Option, Some, None}
use Rattle.mon_header.specs.declared.header.Header.{Header}
use Rattle.mon_outcome.specs.declared.emission.Emission.{Emission}
use Rattle.mon_shows.specs.declared.seen.Seen.{Seen}
use Rattle.mon_shows.specs.Views.{Viewing, observed}
use Rattle.mon_job.specs.Jobs.{Task}
use Rattle.mon_job.specs.Verdicts.{Ruling}
use Rattle.mon_job.specs.declared.verdict.Says.{Says}
use Rattle.mon_job.specs.declared.verdict.Says.TheVariants as says
use Rattle.mon_world.specs.declared.event.Kind.{Kind}
use Rattle.mon_world.specs.declared.event.Kind.TheVariants as kind
use Rattle.mon_world.specs.declared.event.Side.TheVariants.{Switch}
use Rattle.mon_world.specs.declared.event.Out.TheVariants.{Send}
use Rattle.mon_world.specs.declared.event.Note.TheVariants as note
use Rattle.mon_legal.specs.Owns.{Own}
use Rattle.mon_legal.specs.Owns.Own.{Judged, Probes, Goes_out}
use Rattle.mon_legal.specs.Messages.{probe_frame}
use Rattle.mon_session.specs.declared.around.Neighbour.{Neighbour}
use Rattle.mon_session.specs.declared.step.Step.{Step}
use Rattle.mon_session.specs.declared.step.Step.TheVariants as step
use Rattle.mon_session.specs.Now.{Now}
use Rattle.mon_session.specs.Walks.{steps_of}
use Rattle.mon_session.specs.Dues.{met}
use Rattle.mon_session.specs.Probing.{stands, answer_dues}

-- how a verdict is noted. Where there was no memory to look, the run ends before it is
abbrev pub kind_said : Says → Kind
kind_said (says.Probe h e) = kind.Probe
kind_said says.Indistinguishable = kind.Indistinguishable
kind_said (says.Skipped seen) = kind.Skipped
kind_said says.NoMemory = kind.Skipped

-- a probe: its job, serial, edit and version, its emission and what that shows, and the neighbour by which it goes, in its frame
pub record Shot : Type 0 where
  pub job : ℕ
  pub serial : ℕ
  pub edit : ℕ
  pub version : ℕ
  pub emission : Emission
  pub shows : Option Seen
  pub near : ℕ
  pub frame : List ℕ

abbrev pub entries_of_shot : Shot → List Own
entries_of_shot p = Probes p.serial p.edit p.version p.emission p.shows ∷ Goes_out p.serial p.near p.frame ∷ []

abbrev pub steps_of_shot : Shot → List Step
steps_of_shot p = step.Note (note.Probe p.serial p.job p.emission) ∷ step.Out (Send p.near Switch p.frame) ∷ []

-- the neighbour at a port
abbrev pub near_at : ℕ → List Neighbour → Option Neighbour
near_at port near = find (λ n. n.port == port) near

-- the probe that a header and its emission make, where the neighbour at which it comes in is there
abbrev pub shot_by : ℕ → Viewing → ℕ → ℕ → ℕ → ℕ → Header → Emission → Option Neighbour → Option Shot
shot_by key v serial job edit version h e None = None
shot_by key v serial job edit version h e (Some n) = Some (record {
  job = job;
  serial = serial;
  edit = edit;
  version = version;
  emission = e;
  shows = observed v e;
  near = n.session;
  frame = probe_frame key serial n.far_port h;
})

abbrev pub shot_in : ℕ → Option Viewing → List Neighbour → ℕ → ℕ → ℕ → ℕ → Header → Emission → Option Shot
shot_in key None near serial job edit version h e = None
shot_in key (Some v) near serial job edit version h e = shot_by key v serial job edit version h e (near_at h.in_port near)

-- that of a verdict, and of one that may be stale
abbrev pub shot_said : ℕ → Option Viewing → List Neighbour → ℕ → Task → ℕ → Says → Option Shot
shot_said key v near serial job version (says.Probe h e) = shot_in key v near serial job.number job.edit version h e
shot_said key v near serial job version said = None

abbrev pub is_fresh : Now → Ruling → Bool
is_fresh n v = v.job.version == n.version

abbrev pub is_current : Now → Ruling → Bool
is_current n v = is_fresh n v && stands n v.job.number v.job.edit

abbrev pub shot_of : ℕ → Option Viewing → List Neighbour → ℕ → Now → Ruling → Option Shot
shot_of key v near serial n r = if is_current n r then shot_said key v near serial r.job n.version r.says else None

abbrev pub entries_if_shot : Option Shot → List Own
entries_if_shot None = []
entries_if_shot (Some p) = entries_of_shot p

abbrev pub steps_if_shot : Option Shot → List Step
steps_if_shot None = []
steps_if_shot (Some p) = steps_of_shot p

-- the last serial behind it
abbrev pub serial_after : Option Shot → ℕ → ℕ
serial_after None last = last
serial_after (Some p) last = p.serial

-- the entries of an answer, and its steps
abbrev pub answer_entries : ℕ → Now → Ruling → Option Shot → List Own
answer_entries s n r p =
    Judged r.job.number r.job.edit (kind_said r.says) (is_fresh n r)
    ∷ (met (answer_dues s n r.job.number r.job.edit (kind_said r.says) (is_fresh n r)) ++ entries_if_shot p)

abbrev pub answer_steps : ℕ → Now → Ruling → Option Shot → List Step
answer_steps s n r p = steps_of s (met (answer_dues s n r.job.number r.job.edit (kind_said r.says) (is_fresh n r))) ++ steps_if_shot p
