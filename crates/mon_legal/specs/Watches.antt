-- The steady watch: which rule is watched, and what is reported of it.
use Rattle.std.specs.Prelude.{◌≡◌, ℕ, Bool, true, false, ◌==◌, nat_lt, if◌then◌else◌, List, [], ◌∷◌, Option, Some, None, option_map}
use Rattle.mon_table.specs.declared.rule.Rule.{Rule}
use Rattle.mon_report.specs.declared.line.Line.{Line as ReportLine}
use Rattle.mon_report.specs.declared.line.Line.TheVariants.{Watch}
use Rattle.mon_report.specs.declared.line.WatchWhat.TheVariants as watch_what
use Rattle.mon_world.specs.declared.event.Kind.{Kind}
use Rattle.mon_world.specs.declared.event.Kind.TheVariants as kind
use Rattle.mon_world.specs.declared.event.Side.TheVariants.{Switch}
use Rattle.mon_world.specs.declared.event.Note.TheVariants.{Offer, Verdict, Report}
use Rattle.mon_world.specs.declared.history.Entry.TheVariants.{Noted}
use Rattle.mon_legal.specs.Runs.{Run}
use Rattle.mon_legal.specs.Owns.{Own}
use Rattle.mon_legal.specs.Owns.Own.{Returns}
use Rattle.mon_legal.specs.Barriers.{is_armed}
use Rattle.mon_legal.specs.Edits.{entries, unsettled, matches_of}
use Rattle.mon_legal.specs.Probes.{wanting}
use Rattle.mon_legal.specs.Rounds.{next_rule}
use Rattle.mon_legal.specs.Watching.{watching, watch, watch_wanted, seen_by, missing, line_of}
use Rattle.mon_legal.specs.Moments.{Moment, begins, cause}
use Rattle.mon_legal.specs.Moments.Moment.{Is, Came}
use Rattle.mon_legal.specs.Jobs.{Job}
use Rattle.mon_legal.specs.Sessions.{part, parts_of, is_open, opened, returned, version, is_tick, OfEach}
use Rattle.mon_legal.specs.Ordering.{first_with, jobs_in_slot}
use Rattle.mon_legal.specs.Answers.{current}
use Rattle.mon_legal.specs.Confirming.{line_in}
use Rattle.mon_legal.specs.Ticking.{before_tick}
use Rattle.mon_legal.specs.Reports.{Exactly, is_watch_line, is_seen, is_unwatchable}
use Rattle.mon_legal.specs.Lines.{Line}

-- offers -----------------------------------------------------------------------

-- a watch is offered in the turn of a tick that is a multiple since the arming, by a session without one of which no edit wants
-- a job, for the next rule behind the last
pub record IsWatch (run : Run) (f : List Moment) (s : ℕ) : Type 0 where
  pub ticked : is_tick (cause f) ≡ true
  pub armed : is_armed (part run s f) ≡ true
  pub asked : (run.watch_ticks == 0) ≡ false
  pub round : (watching run (part run s f)).round ≡ 0
  pub free : watch run (part run s f) ≡ None
  pub edits : wanting run (part run s f) ≡ None
  pub rule : Rule
  pub next : next_rule (watching run (part run s f)).last (entries (part run s f)) (matches_of (unsettled (part run s f))) ≡ Some rule

abbrev pub WatchIsRight : Run → List Moment → Bool → ℕ → Type 0
WatchIsRight run f true s = IsWatch run f s
WatchIsRight run f false s = Unit {0}

abbrev pub WatchesRightly : Run → List Moment → Moment → Type 0
WatchesRightly run f (Is (Noted (Offer job s k v))) = WatchIsRight run f (k == 0) s
WatchesRightly run f m = Unit {0}

-- reports ----------------------------------------------------------------------

abbrev pub seen_with : ℕ → Run → List Own → List Own → Option ReportLine
seen_with s run own [] = None
seen_with s run own (Returns serial seen ∷ os) = option_map (λ r. line_of s r (Some serial) watch_what.Seen) (seen_by serial seen (watch run own))
seen_with s run own (o ∷ os) = None

abbrev pub sees : Run → List Moment → List Own → ℕ → Option ReportLine
sees run f returns s = if is_open (part run s f) then seen_with s run (part run s f) returns else None

-- the report that a return of the watch's probe is followed by
abbrev pub seen_line : Run → List Moment → Option ReportLine
seen_line run (Came r Switch frame ∷ f) = line_in (first_with (sees run f (returned run (parts_of run f) r Switch frame)) (opened run f))
seen_line run f = None

-- the report that a current answer of the watch is followed by
abbrev pub unwatchable_for : Run → List Moment → Option Job → Kind → Option ReportLine
unwatchable_for run f (Some job) kind.Indistinguishable =
    if job.edit == 0 then option_map (λ w. line_of job.session w.rule None watch_what.Unwatchable) (watch run (part run job.session f)) else None
unwatchable_for run f job kind = None

abbrev pub unwatchable_line : Run → List Moment → Option ReportLine
unwatchable_line run (Is (Noted (Verdict job kind)) ∷ f) = unwatchable_for run f (current run f job) kind
unwatchable_line run f = None

-- the rule that is missing at a tick
abbrev pub missing_at : Run → List Moment → ℕ → Option Rule
missing_at run g s = missing run (version run s g) (watch run (part run s g))

abbrev pub is_missing : Moment → Bool
is_missing (Is (Noted (Report (Watch s matching priority serial watch_what.Missing)))) = true
is_missing m = false

abbrev pub missing_since : ℕ → List Moment → Bool
missing_since s [] = false
missing_since s (Is (Noted (Report (Watch r matching priority serial watch_what.Missing))) ∷ f) = if r == s then true else missing_since s f
missing_since s (m ∷ f) = if begins m then false else missing_since s f

-- a rule is reported as missing in the turn of the tick that its alarm names, once
abbrev pub MissingInTick : Run → List Moment → List Moment → Moment → Type 0
MissingInTick run f g (Is (Noted (Report (Watch s matching priority serial watch_what.Missing)))) =
    (r : Rule) × (is_open (part run s g) ≡ true) × (missing_at run g s ≡ Some r) × (line_of s r None watch_what.Missing ≡ Watch s matching priority serial watch_what.Missing)
    × (missing_since s f ≡ false)
MissingInTick run f g m = Unit {0}

abbrev pub MissingRightly : Run → List Moment → Option (List Moment) → Moment → Type 0
MissingRightly run f (Some g) m = MissingInTick run f g m
MissingRightly run f None m = is_missing m ≡ false

pub record Watched (run : Run) (f : List Moment) (m : Moment) : Type 0 where
  pub offer : WatchesRightly run f m
  pub seen : Exactly (seen_line run f) (is_watch_line is_seen) m
  pub unwatchable : Exactly (unwatchable_line run f) (is_watch_line is_unwatchable) m
  pub missing : MissingRightly run f (before_tick f) m

-- at the end of a turn no session wants a watch for which there is room, and all rules that were missing at the tick are reported
abbrev pub IsReported : ℕ → List Moment → Option Rule → Type 0
IsReported s f None = Unit {0}
IsReported s f (Some r) = missing_since s f ≡ true

abbrev pub MissingCame : Run → List Moment → Option (List Moment) → Type 0
MissingCame run f None = Unit {0}
MissingCame run f (Some g) = OfEach run g (λ s. IsReported s f (missing_at run g s))

pub record AllWatched (run : Run) (f : List Moment) : Type 0 where
  pub offers : OfEach run f (λ s. nat_lt (jobs_in_slot run s f) 16 ≡ true → watch_wanted run (is_tick (cause f)) (part run s f) ≡ None)
  pub missing : MissingCame run f (before_tick f)

abbrev pub WatchesAreKept : Run → List Moment → Type 0
WatchesAreKept run f = Line (Watched run) (AllWatched run) f
