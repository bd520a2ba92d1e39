-- The history of a run, the newest entry first, and what a hub may give.
use Rattle.std.specs.Prelude.{◌≡◌, ℕ, ◌<◌, Bool, List, [], ◌∷◌, Contains, Option, Some, None, Result, Ok, Err}
use Rattle.mon_world.specs.declared.event.Side.TheVariants.{Controller}
use Rattle.mon_world.specs.declared.event.Event.{Event}
use Rattle.mon_world.specs.declared.event.Event.TheVariants.{Opened, Piece, Closed, Stop}
use Rattle.mon_world.specs.declared.event.Out.{Out}
use Rattle.mon_world.specs.declared.event.Out.TheVariants.{Send, Close}
use Rattle.mon_world.specs.declared.hub.HubFault.{HubFault}
use Rattle.mon_world.specs.declared.hub.HubFault.TheVariants as fault
use Rattle.mon_world.specs.Causes.{counted}
use Rattle.mon_world.specs.declared.history.Entry.{Entry}
use Rattle.mon_world.specs.declared.history.Entry.TheVariants.{Given, Put, End}

-- a log with one entry more, where there is a log
abbrev pub longer : Entry → Option (List Entry) → Option (List Entry)
longer entry None = None
longer entry (Some log) = Some (entry ∷ log)

-- the entry of an output, by whether it was lost
abbrev pub entry_of : Bool → Out → Entry
entry_of lost (Send session to frame) = Put session to frame lost
entry_of lost (Close session) = End session

-- the output is a frame
abbrev pub IsSend : Out → Type 0
IsSend (Send session to frame) = Unit {0}
IsSend (Close session) = ⊥

-- how many sessions were opened after the event. The count stands still at its last value
abbrev pub opened_by : Event → ℕ → ℕ
opened_by Opened n = counted n
opened_by event n = n

-- the event names an opened session
abbrev pub NamesOpened : ℕ → Event → Type 0
NamesOpened n (Piece session side bytes) = session < n
NamesOpened n (Closed session) = session < n
NamesOpened n event = Unit {0}

-- no piece of a controller of a session that the gates name
abbrev pub IsOpenGate : List ℕ → Event → Type 0
IsOpenGate gates (Piece session Controller bytes) = Contains gates session → ⊥
IsOpenGate gates event = Unit {0}

-- the gates of a call are told with those before, those of a failed call too; want of memory tells none
abbrev pub with_call : List ℕ → Option (List (List ℕ)) → Option (List (List ℕ))
with_call gates None = None
with_call gates (Some calls) = Some (gates ∷ calls)

abbrev pub AndCall : List ℕ → Result Event HubFault → Option (List (List ℕ)) → Option (List (List ℕ)) → Type 0
AndCall gates (Ok event) before now = now ≡ with_call gates before
AndCall gates (Err fault.Failed) before now = now ≡ with_call gates before
AndCall gates (Err fault.OutOfMemory) before now = now ≡ before

-- the inputs of a history, the newest first
abbrev pub inputs : List Entry → List Event
inputs [] = []
inputs (Given event ∷ h) = event ∷ inputs h
inputs (entry ∷ h) = inputs h

-- how many sessions a history has opened
abbrev pub opened_in : List Entry → ℕ
opened_in [] = 0
opened_in (Given event ∷ h) = opened_by event (opened_in h)
opened_in (entry ∷ h) = opened_in h

-- each event names a session that was opened by then; n were opened before the first
abbrev pub AllNamed : ℕ → List Event → Type 0
AllNamed n [] = Unit {0}
AllNamed n (event ∷ events) = NamesOpened (opened_by event n) event × AllNamed (opened_by event n) events

abbrev pub IsStop : Event → Type 0
IsStop Stop = Unit {0}
IsStop event = ⊥

abbrev pub NoStop : List Event → Type 0
NoStop [] = Unit {0}
NoStop (event ∷ events) = (IsStop event → ⊥) × NoStop events

-- the newest input is Stop, and no earlier one
abbrev pub StopsNow : List Event → Type 0
StopsNow [] = ⊥
StopsNow (event ∷ before) = IsStop event × NoStop before
