-- The events of a trace as they are kept: the bytes of all pieces in one list, and the place of each event in it.
use Rattle.std.specs.Prelude.{ℕ, ◌+◌, ◌<◌, ◌≤◌, List, [], ◌∷◌, take, drop}
use Rattle.mon_world.specs.declared.event.Event.{Event}
use Rattle.mon_world.specs.declared.event.Event.TheVariants.{Opened, Piece, Closed, Tick, Answer}
use Rattle.mon_trace.specs.declared.events.Deed.{Deed}
use Rattle.mon_trace.specs.declared.events.Deed.TheVariants.{Opening, Closing, Ticking, Answering, Bytes}
use Rattle.mon_trace.specs.declared.events.Place.{Place}
use Rattle.mon_trace.specs.Grammar.{Recorded}

-- the event that a place keeps
abbrev pub event_by : List ℕ → Deed → Event
event_by bytes Opening = Opened
event_by bytes (Closing session) = Closed session
event_by bytes Ticking = Tick
event_by bytes (Answering index) = Answer index
event_by bytes (Bytes side size start session) = Piece session side (take size (drop start bytes))

abbrev pub recorded_at : List ℕ → Place → Recorded
recorded_at bytes place = record { offset = place.offset; losing = place.losing; event = event_by bytes place.deed }

abbrev pub events_at : List ℕ → List Place → List Recorded
events_at bytes [] = []
events_at bytes (place ∷ places) = recorded_at bytes place ∷ events_at bytes places

-- the event has no bytes
abbrev pub IsPlain : Deed → Type 0
IsPlain (Bytes side size start session) = ⊥
IsPlain deed = Unit {0}

-- the bytes of a piece stand among so many bytes
abbrev pub IsWithin : ℕ → Deed → Type 0
IsWithin total (Bytes side size start session) = (0 < size) × (size ≤ 4096) × (start + size ≤ total)
IsWithin total deed = Unit {0}

abbrev pub AllWithin : ℕ → List Place → Type 0
AllWithin total [] = Unit {0}
AllWithin total (place ∷ places) = IsWithin total place.deed × AllWithin total places
