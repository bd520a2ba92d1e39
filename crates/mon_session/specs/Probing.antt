-- What a return, an answer and a tick lead to, by what the session keeps.
use Rattle.std.specs.Prelude.{ℕ, ◌+◌, Bool, true, false, ◌==◌, ◌&&◌, if◌then◌else◌, List, [], ◌∷◌, ◌++◌, map, Option, Some, None}
use Rattle.std.specs.List.{list_any}
use Rattle.mon_shows.specs.declared.seen.Seen.{Seen}
use Rattle.mon_report.specs.declared.line.Line.TheVariants as line
use Rattle.mon_report.specs.declared.line.What.TheVariants as what
use Rattle.mon_report.specs.declared.line.WatchWhat.TheVariants as watch_what
use Rattle.mon_world.specs.declared.event.Kind.{Kind}
use Rattle.mon_world.specs.declared.event.Kind.TheVariants as kind
use Rattle.mon_world.specs.declared.event.Side.TheVariants.{Switch}
use Rattle.mon_legal.specs.Runs.{Run}
use Rattle.mon_legal.specs.Owns.{Own}
use Rattle.mon_legal.specs.Owns.Own.{Ticks, Returns}
use Rattle.mon_legal.specs.Messages.{own_barrier}
use Rattle.mon_legal.specs.Edits.{is_number}
use Rattle.mon_legal.specs.Probes.{Live, silent}
use Rattle.mon_legal.specs.Watching.{Watch, is_of_job, seen_by, watch_again, missing}
use Rattle.mon_legal.specs.Directly.{Due, fact, told, rule_of_watch, is_over, confirmed_with}
use Rattle.mon_legal.specs.Directly.Due.{Frame, Tells, Probing, Going}
use Rattle.mon_session.specs.Now.{Now, edit_numbered}
use Rattle.mon_session.specs.Tracks.{confirmed_in, again_in, goes_again, wanting_in}
use Rattle.mon_session.specs.Dues.{met}

-- a return: it may confirm an edit, and may show the watch's rule
abbrev pub confirms : ℕ → Now → ℕ → Option ℕ → List Due
confirms s n serial None = []
confirms s n serial (Some k) = Tells (line.Confirmed s k serial) ∷ confirmed_with (is_over (edit_numbered k n.unsettled))

abbrev pub return_dues : ℕ → Now → ℕ → Seen → List Due
return_dues s n serial seen =
    confirms s n serial (confirmed_in serial seen n.tracks) ++ told s (Some serial) watch_what.Seen (seen_by serial seen n.watching.watch)

abbrev pub return_entries : ℕ → Now → ℕ → Seen → List Own
return_entries s n serial seen = Returns serial seen ∷ met (return_dues s n serial seen)

-- an answer: where it is fresh and its job still stands, a probe, or a report that nothing shows the edit or the watch's rule
abbrev pub stands : Now → ℕ → ℕ → Bool
stands n job k = if k == 0 then is_of_job job n.watching.watch else list_any (is_number k) n.unsettled

abbrev pub unshown_dues : ℕ → Now → ℕ → List Due
unshown_dues s n k =
    if k == 0 then told s None watch_what.Unwatchable (rule_of_watch n.watching.watch)
    else fact s k what.Indistinguishable ∷ Frame Switch own_barrier ∷ []

abbrev pub judged_dues : ℕ → Now → ℕ → ℕ → Kind → List Due
judged_dues s n job k kind.Probe = Probing job k ∷ []
judged_dues s n job k kind.Indistinguishable = unshown_dues s n k
judged_dues s n job k kind.Skipped = []

abbrev pub answer_dues : ℕ → Now → ℕ → ℕ → Kind → Bool → List Due
answer_dues s n job k kind fresh = if fresh && stands n job k then judged_dues s n job k kind else []

-- a tick: probes go out again, edits are told as silent, and the watch as missing
abbrev pub serial_of : Live → ℕ
serial_of l = l.probe.serial

abbrev pub told_at_tick : Run → ℕ → ℕ → Now → List Due
told_at_tick run s version n =
    map (λ k. fact s k what.Silent) (silent run n.unsettled) ++ told s None watch_what.Missing (missing run version n.watching.watch)

abbrev pub tick_dues : Run → ℕ → ℕ → Now → List Due
tick_dues run s version n =
    map Going (map serial_of (again_in run.retry_ticks version n.tracks) ++ watch_again run version n.watching.watch)
    ++ told_at_tick run s version n

-- the watch's probe, where it goes out again
abbrev pub watch_goes : Option Live → Bool → List Own
watch_goes None again = []
watch_goes (Some l) true = goes_again l ∷ []
watch_goes (Some l) false = []

abbrev pub probe_of_watch : Option Watch → Option Live
probe_of_watch None = None
probe_of_watch (Some w) = w.probe

abbrev pub is_watch_again : Run → ℕ → Option Live → Bool
is_watch_again run version None = false
is_watch_again run version (Some l) = (l.ticks + 1 == run.retry_ticks) && (l.probe.version == version)

abbrev pub tick_entries : Run → ℕ → ℕ → Now → List Own
tick_entries run s version n =
    Ticks version ∷ (map goes_again (again_in run.retry_ticks version n.tracks)
    ++ (watch_goes (probe_of_watch n.watching.watch) (is_watch_again run version (probe_of_watch n.watching.watch))
    ++ met (told_at_tick run s version n)))

-- the oldest edit of an armed session that wants a job
abbrev pub wanted : Now → Option ℕ
wanted n = if n.armed then wanting_in n.tracks else None
