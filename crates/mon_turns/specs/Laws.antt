-- What the core's state has to do with a history.
use Rattle.std.specs.Prelude.{◌≡◌, ℕ, ◌+◌, Bool, true, false, ◌==◌, List, ◌∷◌, map, filter, Option, Some, None}
use Rattle.mon_job.specs.Jobs.{Task}
use Rattle.mon_report.specs.declared.line.Line.TheVariants.{Closed}
use Rattle.mon_report.specs.declared.line.Cause.TheVariants.{TooMany}
use Rattle.mon_world.specs.declared.event.Event.{Event}
use Rattle.mon_world.specs.declared.event.Event.TheVariants.{Opened, Idle}
use Rattle.mon_world.specs.declared.event.Note.TheVariants.{Report}
use Rattle.mon_world.specs.declared.history.Entry.{Entry}
use Rattle.mon_world.specs.declared.history.Entry.TheVariants.{Given, Noted, End}
use Rattle.mon_legal.specs.Runs.{Run}
use Rattle.mon_legal.specs.Moments.{Moment}
use Rattle.mon_legal.specs.Moments.Moment.{Is, Went}
use Rattle.mon_legal.specs.Jobs.{openings}
use Rattle.mon_legal.specs.Barriers as history
use Rattle.mon_legal.specs.Edits.{entries}
use Rattle.mon_legal.specs.Sessions.{part, parts_of, open_ones, open_with_slot, other_datapaths, view, is_open, next_slot, slot_of, slot_version, changes}
use Rattle.mon_legal.specs.Passing.{FramesGoInOrder, NothingIsLeft}
use Rattle.mon_legal.specs.Lines.{Line, Always}
use Rattle.mon_legal.specs.Lasting.{SessionsLast}
use Rattle.mon_legal.specs.Confirming.{settled_line}
use Rattle.mon_legal.specs.Probing.{ProbesSeparate}
use Rattle.mon_legal.specs.Ticking.{AllCame, before_tick}
use Rattle.mon_legal.specs.Watches.{MissingCame, unwatchable_line}
use Rattle.mon_legal.specs.Reports.{Exactly, is_what, is_settled, is_of_passing, is_indistinguishable, is_watch_line, is_unwatchable}
use Rattle.mon_legal.specs.Unmonitorable.{UnmonitorableAreReported, answered_line, passed_line, ProbeFollows, BarrierFollows}
use Rattle.mon_legal.specs.Legal.{AreLawful, HasEnded, gated}
use Rattle.mon_turns.specs.Core.{State, now_at, state_of, gates, armed}
use Rattle.mon_turns.specs.Around.{viewed, others}
use Rattle.mon_turns.specs.Slots.{free_slot}
use Rattle.mon_turns.specs.Opening.{HasRoom, opened_in, refused}
use Rattle.mon_turns.specs.Standing.{StandsFor, StoodFor, WasGiven}

-- the moment is the end of the session
abbrev pub ends_it : ℕ → Moment → Bool
ends_it s (Is (End r)) = r == s
ends_it s m = false

abbrev pub is_opening : Moment → Bool
is_opening (Is (Given Opened)) = true
is_opening m = false

-- two cores that stand for one log are in one state
abbrev pub OneLogOneState : Type 0
OneLogOneState = (run : Run) (a b : State) (tasks others : List Task) (calls told : Option (List (List ℕ))) (h : List Entry)
    → StandsFor run a tasks calls h → StandsFor run b others told h → a ≡ b

-- the gates of the state are those of the history
abbrev pub GatesAreTheHistorys : Type 0
GatesAreTheHistorys = (run : Run) (f : List Moment) → gates (state_of run f) ≡ gated run f

-- the armed sessions are the open ones that the history says are armed, and the table of each has the controller's entries
abbrev pub ArmedAreTheHistorys : Type 0
ArmedAreTheHistorys = (run : Run) (f : List Moment)
    → armed (state_of run f) ≡ map (λ s. (s, entries (part run s f))) (filter (λ s. history.is_armed (part run s f)) (open_ones run f))

-- an opening, where a turn has ended and a slot is free: it comes in order, nothing follows it, and the state is the one before
-- with a session more
abbrev pub OpeningsStand : Type 0
OpeningsStand = (run : Run) (f : List Moment) (slot : ℕ) → HasRoom run (Is (Given Opened) ∷ f) → FramesGoInOrder run f → NothingIsLeft run f
    → next_slot run f ≡ Some slot
    → FramesGoInOrder run (Is (Given Opened) ∷ f) × NothingIsLeft run (Is (Given Opened) ∷ f)
    × (state_of run (Is (Given Opened) ∷ f) ≡ opened_in slot (state_of run f))

-- where a turn has ended, the least slot that no session of the core has is the one that the next session gets
abbrev pub FreeSlotIsNext : Type 0
FreeSlotIsNext = (run : Run) (f : List Moment) → HasRoom run f → FramesGoInOrder run f → NothingIsLeft run f → free_slot (state_of run f) ≡ next_slot run f

-- each open session has a slot then
abbrev pub OpenHaveSlots : Type 0
OpenHaveSlots = (run : Run) (s : ℕ) (f : List Moment) → HasRoom run f → FramesGoInOrder run f → NothingIsLeft run f
    → is_open (part run s f) ≡ true → (slot : ℕ) × (slot_of run s f ≡ Some slot)

-- an open session is open behind each moment but its own end
abbrev pub OpenUntilTheEnd : Type 0
OpenUntilTheEnd = (run : Run) (s : ℕ) (f : List Moment) (m : Moment) → ends_it s m ≡ false → is_open (part run s f) ≡ true
    → is_open (part run s (m ∷ f)) ≡ true

-- the same where no slot is free: the session is ended, and only its number is used
abbrev pub away : Run → List Moment → List Moment
away run f = Is (Noted (Report (Closed (openings run f) TooMany))) ∷ Is (End (openings run f)) ∷ Is (Given Opened) ∷ f

abbrev pub TurnedAway : Type 0
TurnedAway = (run : Run) (f : List Moment) → HasRoom run (Is (Given Opened) ∷ f) → FramesGoInOrder run f → NothingIsLeft run f
    → next_slot run f ≡ None
    → FramesGoInOrder run (away run f) × NothingIsLeft run (away run f) × (state_of run (away run f) ≡ refused (state_of run f))

-- where nothing came the turn ends at once, and the state stays
abbrev pub IdleStands : Type 0
IdleStands = (run : Run) (f : List Moment) → FramesGoInOrder run f → NothingIsLeft run f
    → FramesGoInOrder run (Is (Given Idle) ∷ f) × NothingIsLeft run (Is (Given Idle) ∷ f) × (state_of run (Is (Given Idle) ∷ f) ≡ state_of run f)

-- a moment moves the version of an open session's slot as often as it changes it for that session: no other session of the
-- slot is open
abbrev pub VersionsRise : Type 0
VersionsRise = (run : Run) (s slot : ℕ) (f : List Moment) (m : Moment) → HasRoom run f → is_opening m ≡ false → is_open (part run s f) ≡ true
    → slot_of run s f ≡ Some slot
    → slot_version run slot (m ∷ f) + changes (part run s f) ≡ slot_version run slot f + changes (part run s (m ∷ f))

-- the view that the state gives a session is the history's
abbrev pub ViewsAreTheHistorys : Type 0
ViewsAreTheHistorys = (run : Run) (f : List Moment) (s : ℕ) → HasRoom run f → FramesGoInOrder run f → NothingIsLeft run f
    → viewed run (state_of run f).sessions (now_at run f s) ≡ view run s f

-- and so are the datapaths of the other sessions
abbrev pub OthersAreTheHistorys : Type 0
OthersAreTheHistorys = (run : Run) (f : List Moment) (s : ℕ) → HasRoom run f → FramesGoInOrder run f → NothingIsLeft run f
    → others s (state_of run f).sessions ≡ other_datapaths (parts_of run f) s (open_with_slot run f)

-- an event behind a lawful whole history is lawful, whatever it is
abbrev pub EventsAreLawful : Type 0
EventsAreLawful = (run : Run) (f : List Moment) (event : Event) → AreLawful run f → HasEnded run f → AreLawful run (Is (Given event) ∷ f)

-- where nothing comes next the turn has ended by every line, but for what a tick asks for
abbrev pub WholeTurns : Type 0
WholeTurns = (run : Run) (f : List Moment) → FramesGoInOrder run f → ProbesSeparate run f → NothingIsLeft run f
    → AllCame run f → MissingCame run f (before_tick f) → HasEnded run f

-- a probe goes out to the switch of a session that is open
abbrev pub GoesToOpen : Run → List Moment → Moment → Type 0
GoesToOpen run f (Went s serial near frame lost) = is_open (part run near f) ≡ true
GoesToOpen run f m = Unit {0}

abbrev pub ProbesGoToOpen : Run → List Moment → Type 0
ProbesGoToOpen run f = Line (GoesToOpen run) Always f

-- the line on sessions follows from the order of moments, and from where probes go
abbrev pub SessionsFollow : Type 0
SessionsFollow = (run : Run) (f : List Moment) → HasRoom run f → FramesGoInOrder run f → ProbesSeparate run f → ProbesGoToOpen run f → SessionsLast run f

-- behind an answer comes its report exactly where one is due, and the note of its probe
abbrev pub AnswersAreFollowed : Type 0
AnswersAreFollowed = (run : Run) (f : List Moment) (m : Moment) → HasRoom run (m ∷ f) → FramesGoInOrder run (m ∷ f) → ProbesSeparate run (m ∷ f)
    → Exactly (answered_line run f) (is_what is_indistinguishable) m × Exactly (unwatchable_line run f) (is_watch_line is_unwatchable) m × ProbeFollows run f m

-- behind the frame of an edit comes its report, exactly where one is due
abbrev pub EditsAreFollowed : Type 0
EditsAreFollowed = (run : Run) (f : List Moment) (m : Moment) → HasRoom run (m ∷ f) → FramesGoInOrder run (m ∷ f) → ProbesSeparate run (m ∷ f) → ProbesGoToOpen run f
    → Exactly (passed_line run f) (is_what is_of_passing) m

-- behind a report comes its own barrier
abbrev pub BarriersFollow : Type 0
BarriersFollow = (run : Run) (f : List Moment) (m : Moment) → HasRoom run (m ∷ f) → FramesGoInOrder run (m ∷ f) → ProbesSeparate run (m ∷ f) → ProbesGoToOpen run f
    → BarrierFollows run f m

-- the line on updates that no probe is to show follows from the order of moments, and from where probes go
abbrev pub UnmonitorableFollow : Type 0
UnmonitorableFollow = (run : Run) (f : List Moment) → HasRoom run f → FramesGoInOrder run f → ProbesSeparate run f → ProbesGoToOpen run f → UnmonitorableAreReported run f

-- where the core stood for all before an event, the log with the event is that of a lawful history
abbrev pub GivenStand : Type 0
GivenStand = (run : Run) (event : Event) (core : State) (tasks : List Task) (calls : Option (List (List ℕ))) (h : List Entry) → WasGiven run event core tasks calls h → StoodFor run calls h

-- and where nothing came it stands for that log as it is
abbrev pub NothingStands : Type 0
NothingStands = (run : Run) (core : State) (tasks : List Task) (calls : Option (List (List ℕ))) (h : List Entry) → WasGiven run Idle core tasks calls h → StandsFor run core tasks calls h

-- behind the reply to an own barrier comes that its edit is settled, exactly where it was not
abbrev pub SettlingsFollow : Type 0
SettlingsFollow = (run : Run) (f : List Moment) (m : Moment) → HasRoom run (m ∷ f) → FramesGoInOrder run (m ∷ f) → ProbesSeparate run (m ∷ f) → ProbesGoToOpen run f
    → Exactly (settled_line run f) (is_what is_settled) m
