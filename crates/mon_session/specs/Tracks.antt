-- What a session keeps of the jobs and the probes of each unsettled edit, the oldest first.
use Rattle.std.specs.Prelude.{◌≡◌, ℕ, ◌+◌, Bool, true, false, not, ◌==◌, ◌&&◌, ◌||◌, if◌then◌else◌, List, [], ◌∷◌, ◌++◌, take, map, filter, find, Option, Some, None, is_some, option_map}
use Rattle.std.specs.List.{list_any, AllByRecursion}
use Rattle.mon_table.specs.declared.edit.Edit.{Edit}
use Rattle.mon_report.specs.declared.line.Line.{Line}
use Rattle.mon_report.specs.declared.line.Line.TheVariants.{Fact, Confirmed}
use Rattle.mon_report.specs.declared.line.What.{What}
use Rattle.mon_legal.specs.Runs.{Run}
use Rattle.mon_shows.specs.declared.seen.Seen.{Seen}
use Rattle.mon_legal.specs.Owns.{Own}
use Rattle.mon_legal.specs.Owns.Own.{Goes_out}
use Rattle.mon_legal.specs.Barriers.{is_barriered}
use Rattle.mon_legal.specs.Edits.{Passed, changes_nothing, rejected_by}
use Rattle.mon_legal.specs.Probes.{Probe, Way, Live, live, with_live, sent_out, kept_of, with_job, is_seen, or_own}

-- of an edit: its number, whether it was reported as one that no probe is to show, whether a job of it has no answer, its
-- 16 newest probes and those of its probes that are live, the newest first
pub record Track : Type 0 where
  pub number : ℕ
  pub reported : Bool
  pub asked : Bool
  pub kept : List Probe
  pub live : List Live

abbrev pub is_track : ℕ → Track → Bool
is_track k t = t.number == k

-- an edit goes out that changes something
abbrev pub new_track : ℕ → Track
new_track k = record { number = k; reported = false; asked = false; kept = []; live = [] }

abbrev pub with_track : Option Edit → ℕ → List Track → List Track
with_track None count tracks = tracks
with_track (Some x) count tracks = if changes_nothing x then tracks else tracks ++ new_track (count + 1) ∷ []

-- an edit is settled or rejected
abbrev pub without_track : Option ℕ → List Track → List Track
without_track None tracks = tracks
without_track (Some k) tracks = filter (λ t. not (is_track k t)) tracks

abbrev pub tracks_at : Bool → Option ℕ → List ℕ → List Passed → List Track → List Track
tracks_at true settled frame edits tracks = tracks
tracks_at false settled frame edits tracks = without_track settled (without_track (rejected_by frame edits) tracks)

-- a line tells of one
abbrev pub mark_track : What → ℕ → Track → Track
mark_track what k t = record t { reported = t.reported || (is_barriered what && is_track k t) }

abbrev pub marked_track : ℕ → Track → Track
marked_track k t = record t { reported = t.reported || is_track k t }

abbrev pub tracks_by : Line → List Track → List Track
tracks_by (Confirmed session k serial) tracks = without_track (Some k) tracks
tracks_by (Fact session k what) tracks = map (mark_track what k) tracks
tracks_by line tracks = tracks

-- a job of one is offered, or answered
abbrev pub offered : ℕ → Track → Track
offered k t = record t { asked = t.asked || is_track k t }

abbrev pub answered_for : ℕ → Track → Track
answered_for k t = record t { asked = t.asked && not (is_track k t) }

-- it gets a probe, and a probe goes out
abbrev pub kept_with : Bool → Probe → List Probe → List Probe
kept_with true p kept = take 16 (p ∷ kept)
kept_with false p kept = kept

abbrev pub probed : Probe → Track → Track
probed p t = record t { kept = kept_with (is_track p.edit t) p t.kept; live = with_live (not (p.edit == 0) && is_track p.edit t) p t.live }

abbrev pub gone_out : ℕ → ℕ → List ℕ → Track → Track
gone_out serial near frame t = record t { live = map (sent_out serial near frame) t.live }

-- it gets a probe that goes out at once
abbrev pub sent_one : ℕ → List ℕ → Probe → Track → Track
sent_one near frame p t = gone_out p.serial near frame (probed p t)

-- at a tick a live probe is due, and lives no more where it is of another version; probes are sent again after so many ticks
abbrev pub is_due : ℕ → Bool → Live → Bool
is_due retry reported l = (l.ticks + 1 == retry) && not reported

abbrev pub is_over : ℕ → ℕ → Bool → Live → Bool
is_over retry version reported l = is_due retry reported l && not (l.probe.version == version)

abbrev pub a_tick_later : ℕ → Bool → Live → Live
a_tick_later retry reported l = record l { ticks = if is_due retry reported l then 0 else l.ticks + 1 }

abbrev pub ticked : ℕ → ℕ → Track → Track
ticked retry version t =
    record t { live = map (a_tick_later retry t.reported) (filter (λ l. not (is_over retry version t.reported l)) t.live) }

-- what is asked of them ----------------------------------------------------------

-- a return of this serial shows what a kept probe is to show
abbrev pub is_shown : ℕ → Seen → Probe → Bool
is_shown serial seen p = (p.serial == serial) && is_seen seen p.shows

abbrev pub fits : ℕ → Seen → Track → Bool
fits serial seen t = list_any (is_shown serial seen) t.kept

-- the edit that it confirms, the newest of those whose kept probes fit
abbrev pub confirmed_in : ℕ → Seen → List Track → Option ℕ
confirmed_in serial seen [] = None
confirmed_in serial seen (t ∷ newer) = or_own (confirmed_in serial seen newer) (if fits serial seen t then Some t.number else None)

-- the oldest edit that wants a job
abbrev pub is_live : List Live → Bool
is_live [] = false
is_live (l ∷ ls) = true

abbrev pub wants_job : Track → Bool
wants_job t = not t.reported && not (t.asked || is_live t.live)

abbrev pub wanting_in : List Track → Option ℕ
wanting_in tracks = option_map (λ t. t.number) (find wants_job tracks)

-- the way that a live probe went
abbrev pub near_of : Option Way → ℕ
near_of None = 0
near_of (Some way) = way.near

abbrev pub frame_of : Option Way → List ℕ
frame_of None = []
frame_of (Some way) = way.frame

abbrev pub goes_again : Live → Own
goes_again l = Goes_out l.probe.serial (near_of l.way) (frame_of l.way)

-- those that go out again at a tick
abbrev pub is_again : ℕ → ℕ → Bool → Live → Bool
is_again retry version reported l = is_due retry reported l && (l.probe.version == version)

abbrev pub again_of : ℕ → ℕ → Track → List Live
again_of retry version t = filter (is_again retry version t.reported) t.live

abbrev pub again_in : ℕ → ℕ → List Track → List Live
again_in retry version [] = []
again_in retry version (t ∷ newer) = again_of retry version t ++ again_in retry version newer

-- each live probe went out
abbrev pub HasGone : Live → Type 0
HasGone l = is_some l.way ≡ true

abbrev pub AllGone : List Track → Type 0
AllGone tracks = AllByRecursion (λ t. AllByRecursion HasGone t.live) tracks

-- what the history says of an edit
abbrev pub track_of : Run → List Own → Passed → Track
track_of run own p = record {
  number = p.number;
  reported = p.reported;
  asked = list_any (λ k. k == p.number) (with_job own);
  kept = kept_of p.number own;
  live = filter (λ l. l.probe.edit == p.number) (live run own);
}

abbrev pub oldest_first : {A : Type 0} → List A → List A
oldest_first [] = []
oldest_first (x ∷ older) = oldest_first older ++ x ∷ []

abbrev pub tracks_of : Run → List Own → List Passed → List Track
tracks_of run own edits = oldest_first (map (track_of run own) edits)
