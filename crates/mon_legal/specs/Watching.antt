-- The steady watch of a session: one rule of the controller after the other is probed.
use Rattle.std.specs.Prelude.{ℕ, ◌+◌, Bool, true, false, not, ◌==◌, ◌&&◌, if◌then◌else◌, List, [], ◌∷◌, Option, Some, None}
use Rattle.mon_header.specs.Matching.{overlaps}
use Rattle.mon_table.specs.declared.rule.Rule.{Rule}
use Rattle.mon_table.specs.declared.edit.Edit.{Edit}
use Rattle.mon_table.specs.Rules.{Identity, identity_of}
use Rattle.mon_table.specs.Edits.{edited}
use Rattle.of_match.specs.Layout.{spelled}
use Rattle.mon_shows.specs.declared.seen.Seen.{Seen}
use Rattle.mon_report.specs.declared.line.Line.{Line}
use Rattle.mon_report.specs.declared.line.Line.TheVariants.{Watch as Watch_line}
use Rattle.mon_report.specs.declared.line.WatchWhat.{WatchWhat}
use Rattle.mon_world.specs.declared.event.Side.TheVariants.{Switch}
use Rattle.mon_legal.specs.Runs.{Run}
use Rattle.mon_legal.specs.Owns.{Own}
use Rattle.mon_legal.specs.Owns.Own.{Ticks, Judged, Offers, Probes, Goes_out, Sends, Reports}
use Rattle.mon_legal.specs.Barriers.{is_armed, edit_out}
use Rattle.mon_legal.specs.Rounds.{next_rule}
use Rattle.mon_legal.specs.Edits.{Passed, entries, unsettled, matches_of}
use Rattle.mon_legal.specs.Probes.{Probe, Live, just_live, sent_out, is_seen}

-- the watch --------------------------------------------------------------------

-- a watch: its rule, the number of its job, its probe with the ticks since that was last sent, and the ticks since it was sent
-- first
pub record Watch : Type 0 where
  pub rule : Rule
  pub job : ℕ
  pub probe : Option Live
  pub age : ℕ

-- what a session knows of its watches: the one that stands, the identity for which one was last offered, and the ticks since
-- the last that was a multiple
pub record Watching : Type 0 where
  pub watch : Option Watch
  pub last : Option Identity
  pub round : ℕ

abbrev pub begun : ℕ → Option Rule → Watching → Watching
begun job None w = w
begun job (Some r) w = record w { watch = Some (record { rule = r; job = job; probe = None; age = 0 }); last = Some (identity_of r) }

-- its own job is answered: a stale answer ends it
abbrev pub judged : ℕ → Bool → Watch → Option Watch
judged job fresh w = if (w.job == job) && not fresh then None else Some w

-- a passed edit that overlaps its rule ends it
abbrev pub passed_over : Edit → Watch → Option Watch
passed_over x w = if overlaps (edited x).matching w.rule.matching then None else Some w

-- its probe is due at the next tick
abbrev pub is_due : Run → Option Live → Bool
is_due run None = false
is_due run (Some l) = l.ticks + 1 == run.retry_ticks

abbrev pub is_at : ℕ → Option Live → Bool
is_at version None = true
is_at version (Some l) = l.probe.version == version

abbrev pub ticked : Run → Option Live → Option Live
ticked run None = None
ticked run (Some l) = Some (record l { ticks = if l.ticks + 1 == run.retry_ticks then 0 else l.ticks + 1 })

-- a due probe that would go out again at another version ends it
abbrev pub after_tick : Run → ℕ → Watch → Option Watch
after_tick run version w =
    if is_due run w.probe && not (is_at version w.probe) then None else Some (record w { probe = ticked run w.probe; age = w.age + 1 })

abbrev pub and_then : Option Watch → (Watch → Option Watch) → Option Watch
and_then None f = None
and_then (Some w) f = f w

abbrev pub with_probe : Probe → Watch → Option Watch
with_probe p w = Some (record w { probe = Some (just_live p); age = 0 })

abbrev pub out_if : ℕ → ℕ → List ℕ → Option Live → Option Live
out_if serial near frame None = None
out_if serial near frame (Some l) = Some (sent_out serial near frame l)

abbrev pub gone_out : ℕ → ℕ → List ℕ → Watch → Option Watch
gone_out serial near frame w = Some (record w { probe = out_if serial near frame w.probe })

abbrev pub probed_if : Bool → Probe → Watching → Watching
probed_if true p w = record w { watch = and_then w.watch (with_probe p) }
probed_if false p w = w

abbrev pub carried : ℕ → ℕ → List ℕ → Watching → Watching
carried serial near frame w = record w { watch = and_then w.watch (gone_out serial near frame) }

abbrev pub begun_if : Bool → ℕ → List Rule → List Passed → Watching → Watching
begun_if true job t edits w = begun job (next_rule w.last t (matches_of edits)) w
begun_if false job t edits w = w

abbrev pub judged_if : Bool → ℕ → Bool → Watching → Watching
judged_if true job fresh w = record w { watch = and_then w.watch (judged job fresh) }
judged_if false job fresh w = w

abbrev pub overrun : Option Edit → Watching → Watching
overrun None w = w
overrun (Some x) w = record w { watch = and_then w.watch (passed_over x) }

-- the ticks count from the arming on
abbrev pub at_tick : Run → ℕ → Bool → Watching → Watching
at_tick run version false w = w
at_tick run version true w = record w {
  watch = and_then w.watch (after_tick run version);
  round = if w.round + 1 == run.watch_ticks then 0 else w.round + 1;
}

abbrev pub without_watch : Line → Watching → Watching
without_watch (Watch_line session matching priority serial what) w = record w { watch = None }
without_watch line w = w

abbrev pub watching : Run → List Own → Watching
watching run [] = record { watch = None; last = None; round = 0 }
watching run (Offers job edit ∷ before) = begun_if (edit == 0) job (entries before) (unsettled before) (watching run before)
watching run (Judged job edit kind fresh ∷ before) = judged_if (edit == 0) job fresh (watching run before)
watching run (Probes serial edit version emission shows ∷ before) =
    probed_if (edit == 0) (record { serial = serial; edit = edit; version = version; emission = emission; shows = shows }) (watching run before)
watching run (Goes_out serial near frame ∷ before) = carried serial near frame (watching run before)
watching run (Sends Switch frame lost ∷ before) = overrun (edit_out before) (watching run before)
watching run (Ticks version ∷ before) = at_tick run version (is_armed before) (watching run before)
watching run (Reports line ∷ before) = without_watch line (watching run before)
watching run (o ∷ before) = watching run before

abbrev pub watch : Run → List Own → Option Watch
watch run own = (watching run own).watch

-- what it leads to -------------------------------------------------------------

abbrev pub is_of_job : ℕ → Option Watch → Bool
is_of_job job None = false
is_of_job job (Some w) = w.job == job

-- the line that tells of it
abbrev pub line_of : ℕ → Rule → Option ℕ → WatchWhat → Line
line_of s r serial what = Watch_line s (spelled r.matching) r.priority serial what

-- a return of its serial shows what its probe is to show
abbrev pub is_shown : ℕ → Seen → Option Live → Bool
is_shown serial seen None = false
is_shown serial seen (Some l) = (l.probe.serial == serial) && is_seen seen l.probe.shows

abbrev pub seen_by : ℕ → Seen → Option Watch → Option Rule
seen_by serial seen None = None
seen_by serial seen (Some w) = if is_shown serial seen w.probe then Some w.rule else None

-- its probe goes out again at the next tick
abbrev pub resent : Run → ℕ → Option Live → List ℕ
resent run version None = []
resent run version (Some l) = if (l.ticks + 1 == run.retry_ticks) && (l.probe.version == version) then l.probe.serial ∷ [] else []

abbrev pub watch_again : Run → ℕ → Option Watch → List ℕ
watch_again run version None = []
watch_again run version (Some w) = resent run version w.probe

-- it is reported as missing at the next tick: its probe was sent, and it does not end there
abbrev pub is_sent : Option Live → Bool
is_sent None = false
is_sent (Some l) = true

abbrev pub missing : Run → ℕ → Option Watch → Option Rule
missing run version None = None
missing run version (Some w) =
    if is_sent w.probe && ((w.age + 1 == run.alarm_ticks) && not (is_due run w.probe && not (is_at version w.probe))) then Some w.rule else None

-- what is wanted ---------------------------------------------------------------

abbrev pub is_free : Option Watch → Bool
is_free None = true
is_free (Some w) = false

-- the rule for which an armed session without a watch offers one in the turn of a tick that is a multiple
abbrev pub wants_watch : Bool → Watching → List Rule → List Passed → Option Rule
wants_watch true w t edits = if (w.round == 0) && is_free w.watch then next_rule w.last t (matches_of edits) else None
wants_watch false w t edits = None

abbrev pub watch_wanted : Run → Bool → List Own → Option Rule
watch_wanted run in_tick own =
    wants_watch (in_tick && (is_armed own && not (run.watch_ticks == 0))) (watching run own) (entries own) (unsettled own)
