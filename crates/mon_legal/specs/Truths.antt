-- An answer is the first to its job, and true where its note stands: a history that ends there is the beginning of a legal turn.
use Rattle.std.specs.Prelude.{◌≡◌, ℕ, ◌+◌, true, false, List, Option, Some, None}
use Rattle.mon_header.specs.declared.header.Header.{Header}
use Rattle.mon_outcome.specs.declared.emission.Emission.{Emission}
use Rattle.mon_shows.specs.declared.target.Target.{Target}
use Rattle.mon_world.specs.declared.event.Kind.{Kind}
use Rattle.mon_world.specs.declared.event.Kind.TheVariants as kind
use Rattle.mon_world.specs.declared.event.Note.TheVariants.{Verdict, Probe}
use Rattle.mon_world.specs.declared.history.Entry.TheVariants.{Noted}
use Rattle.mon_legal.specs.Runs.{Run}
use Rattle.mon_shows.specs.Separation.{separates}
use Rattle.mon_legal.specs.Targets.{target_of_job, table_for}
use Rattle.mon_legal.specs.Edits.{expected}
use Rattle.mon_legal.specs.Datapaths.{catching}
use Rattle.mon_legal.specs.Moments.{Moment}
use Rattle.mon_legal.specs.Moments.Moment.{Is}
use Rattle.mon_legal.specs.Jobs.{Job, job_of, is_unanswered, last_serial}
use Rattle.mon_legal.specs.Sessions.{part, view}
use Rattle.mon_legal.specs.Answers.{current}
use Rattle.mon_legal.specs.Probing.{IsProbe}
use Rattle.mon_legal.specs.Lines.{Line, Always}

-- no header and emission separate the expected table from the one without the update; 0 stands for the watch
abbrev pub NothingSeparates : Run → List Moment → ℕ → ℕ → Type 0
NothingSeparates run f s k =
    (x : Target) × (target_of_job run (view run s f) (part run s f) k ≡ Some x)
    × ((h : Header) (e : Emission)
    → separates (view run s f) (table_for (expected (catching run (part run s f)) (part run s f)) x) x h e ≡ false)

-- a frame is there that may go out as the probe of the job with this serial and emission: its header separates
abbrev pub HasFrame : Run → List Moment → ℕ → Job → Emission → Type 0
HasFrame run f serial job e = (r : ℕ) × (frame : List ℕ) × IsProbe run f serial e job r frame

-- a current answer is true: for a probe some emission has its frame, or else nothing separates. A job that was skipped is
-- answered too late
abbrev pub IsTrueOf : Run → List Moment → Option Job → Kind → Type 0
IsTrueOf run f (Some job) kind.Probe = (e : Emission) × HasFrame run f (last_serial run f + 1) job e
IsTrueOf run f (Some job) kind.Indistinguishable = NothingSeparates run f job.session job.edit
IsTrueOf run f (Some job) kind.Skipped = ⊥
IsTrueOf run f None kind = Unit {0}

-- the probe of a note has its frame, before that frame goes out
abbrev pub IsThere : Run → List Moment → ℕ → Option Job → Emission → Type 0
IsThere run f serial None e = ⊥
IsThere run f serial (Some job) e = HasFrame run f serial job e

-- an answer is the first to its job, and it is true
pub record IsAnswer (run : Run) (f : List Moment) (number : ℕ) (kind : Kind) : Type 0 where
  pub first : is_unanswered number f ≡ true
  pub is_true : IsTrueOf run f (current run f number) kind

abbrev pub NoteIsTrue : Run → List Moment → Moment → Type 0
NoteIsTrue run f (Is (Noted (Verdict number kind))) = IsAnswer run f number kind
NoteIsTrue run f (Is (Noted (Probe serial number e))) = IsThere run f serial (job_of number f) e
NoteIsTrue run f m = Unit {0}

abbrev pub AnswersAreTrue : Run → List Moment → Type 0
AnswersAreTrue run f = Line (NoteIsTrue run) Always f
