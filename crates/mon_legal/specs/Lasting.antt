-- How sessions begin, are armed and end.
use Rattle.std.specs.Prelude.{◌≡◌, ℕ, ◌≤◌, Bool, true, false, not, ◌&&◌, if◌then◌else◌, List, ◌∷◌, length, Option, Some, None, IfSome, option_map, is_none}
use Rattle.of_msgs.specs.Layout.{datapath_of}
use Rattle.mon_report.specs.declared.line.Line.{Line as ReportLine}
use Rattle.mon_report.specs.declared.line.Line.TheVariants.{Armed, Closed}
use Rattle.mon_report.specs.declared.line.Cause.{Cause}
use Rattle.mon_report.specs.declared.line.Cause.TheVariants as why
use Rattle.mon_world.specs.declared.event.Side.TheVariants.{Switch}
use Rattle.mon_world.specs.declared.event.Event.TheVariants.{Opened}
use Rattle.mon_world.specs.declared.event.Event.TheVariants as event
use Rattle.mon_world.specs.declared.event.Note.TheVariants.{Offer, Report}
use Rattle.mon_world.specs.declared.history.Entry.TheVariants.{Given, Noted, Put, End}
use Rattle.mon_legal.specs.Runs.{Run}
use Rattle.mon_legal.specs.Owns.{Own}
use Rattle.mon_legal.specs.Messages.{is_own_error}
use Rattle.mon_legal.specs.Barriers.{answered_by, is_arming, is_armed}
use Rattle.mon_legal.specs.Edits.{passed, rejected_by}
use Rattle.mon_legal.specs.Datapaths.{datapath, tag}
use Rattle.mon_legal.specs.Directly.{is_own_reply, refused_reply, of_fault}
use Rattle.mon_legal.specs.Moments.{Moment}
use Rattle.mon_legal.specs.Moments.Moment.{Is, Went, Came, Broke, Did}
use Rattle.mon_legal.specs.Jobs.{openings}
use Rattle.mon_legal.specs.Sessions.{part, parts_of, is_open, has_lost, next_slot, open_with_slot, other_datapaths, session_in, OfEach}
use Rattle.mon_legal.specs.Reports.{Exactly, is_armed_line, is_closed_line}
use Rattle.mon_legal.specs.Lines.{Line}

-- ends -----------------------------------------------------------------------

-- why a frame of the switch ends its session: its own FEATURES_REPLY is refused, or an ERROR comes before it is armed
abbrev pub refused_frame : Run → List ℕ → List Own → List ℕ → Option Cause
refused_frame run others own frame =
    if is_own_reply own frame then refused_reply run others (datapath_of frame)
    else (if is_own_error frame && (is_none (rejected_by frame (passed own)) && not (is_armed own)) then Some why.NotArmed else None)

abbrev pub when : Bool → Cause → Option Cause
when b c = if b then Some c else None

-- the session that ends at once, and why
abbrev pub ended_by : Run → List Moment → Option (ℕ × Cause)
ended_by run (Is (Given Opened) ∷ f) = option_map (λ c. (openings run f, c)) (when (is_none (next_slot run f)) why.TooMany)
ended_by run (Is (Given (event.Closed s)) ∷ f) = option_map (λ c. (s, c)) (when (is_open (part run s f)) why.Peer)
ended_by run (Broke s side fault ∷ f) = Some (s, of_fault fault)
ended_by run (Came s Switch frame ∷ f) =
    option_map (λ c. (s, c)) (refused_frame run (other_datapaths (parts_of run f) s (open_with_slot run f)) (part run s f) frame)
ended_by run f = None

-- a session ends for such a cause at once, and else only where it lost an output
abbrev pub EndsAs : Run → List Moment → Option (ℕ × Cause) → Moment → Type 0
EndsAs run f (Some ended) m = m ≡ Is (End ended.0)
EndsAs run f None (Is (End s)) = has_lost (part run s f) ≡ true
EndsAs run f None m = Unit {0}

abbrev pub cause_or_lost : Option (ℕ × Cause) → Cause
cause_or_lost (Some ended) = ended.1
cause_or_lost None = why.Lost

-- the report that an end is followed by
abbrev pub closed_line : Run → List Moment → Option ReportLine
closed_line run (Is (End s) ∷ f) = Some (Closed s (cause_or_lost (ended_by run f)))
closed_line run f = None

-- arming ---------------------------------------------------------------------

abbrev pub armed_with : ℕ → Option ℕ → Option ℕ → Option ReportLine
armed_with s (Some d) (Some t) = Some (Armed s d t)
armed_with s d t = None

-- the report that the reply to the arming's barrier is followed by
abbrev pub armed_line : Run → List Moment → Option ReportLine
armed_line run (Came s Switch frame ∷ f) =
    if is_arming (answered_by (part run s f) frame) then armed_with s (datapath (part run s f)) (tag run (part run s f)) else None
armed_line run f = None

-- an ended session ----------------------------------------------------------

-- whose work a moment is. The report on its end comes behind it
abbrev pub worker : Moment → Option ℕ
worker (Is (Put s to frame lost)) = Some s
worker (Went s serial near frame lost) = Some near
worker (Is (End s)) = Some s
worker (Is (Noted (Offer job s edit version))) = Some s
worker (Is (Noted (Report line))) = if is_closed_line line then None else Some (session_in line)
worker (Came s side frame) = Some s
worker (Broke s side fault) = Some s
worker (Did s act) = Some s
worker m = None

pub record Lasts (run : Run) (f : List Moment) (m : Moment) : Type 0 where
  pub ends : EndsAs run f (ended_by run f) m
  pub closed : Exactly (closed_line run f) is_closed_line m
  pub armed : Exactly (armed_line run f) is_armed_line m
  -- nothing comes of a session before it opens and after it ended
  pub silent : IfSome (worker m) (λ s. is_open (part run s f) ≡ true)

-- at the end of a turn no session is open that lost an output, and no more than 64 are
pub record AllLast (run : Run) (f : List Moment) : Type 0 where
  pub losses : OfEach run f (λ s. has_lost (part run s f) ≡ false)
  pub few : length (open_with_slot run f) ≤ 64

abbrev pub SessionsLast : Run → List Moment → Type 0
SessionsLast run f = Line (Lasts run) (AllLast run) f
