-- What the history says of each session, what is owed to it, and which histories are legal. The newest entry is first.
use Rattle.std.specs.Prelude.{◌≡◌, ℕ, suc, ◌+◌, ◌<◌, Bool, true, false, List, [], ◌∷◌, ◌++◌, flat_map, map, length, slice_index_or, slice_set, Option, Some, None, if◌then◌else◌}
use Rattle.std.specs.Option.{is_some}
use Rattle.of_frame.specs.declared.fault.FrameFault.{FrameFault}
use Rattle.of_frame.specs.Cut.{Pending, nothing_yet, cut}
use Rattle.mon_world.specs.declared.event.Side.{Side}
use Rattle.mon_world.specs.declared.event.Side.TheVariants.{Controller, Switch}
use Rattle.mon_world.specs.declared.event.Event.{Event}
use Rattle.mon_world.specs.declared.event.Event.TheVariants.{Opened, Piece, Closed}
use Rattle.mon_world.specs.declared.event.Out.{Out}
use Rattle.mon_world.specs.declared.event.Out.TheVariants.{Send, Close}
use Rattle.mon_world.specs.declared.history.Entry.{Entry}
use Rattle.mon_world.specs.declared.history.Entry.TheVariants.{Given, Noted, Put, End}
use Rattle.mon_table.specs.declared.rule.Rule.{Rule}
use Rattle.mon_world.specs.Logs.{entry_of, inputs, NoStop, StopsNow}
use Rattle.mon_core.specs.Fates.{Fated, fated, fates, passed, errors, followed_all}

-- what has come of both sides of a session, the table of the entries that the controller has on the switch, and whether
-- the session ended
pub record Sides : Type 0 where
  pub controller : Pending
  pub switch : Pending
  pub table : List Rule
  pub ended : Bool

abbrev pub fresh : Sides
fresh = record { controller = nothing_yet; switch = nothing_yet; table = []; ended = false }

abbrev pub pending_of : Sides → Side → Pending
pending_of sides Controller = sides.controller
pending_of sides Switch = sides.switch

abbrev pub other : Side → Side
other Controller = Switch
other Switch = Controller

-- what is pending of the controller after a piece of a side
abbrev pub controller_after : Pending → Side → List ℕ → Pending
controller_after pending Controller bytes = (cut pending bytes).0
controller_after pending Switch bytes = pending

-- and of the switch
abbrev pub switch_after : Pending → Side → List ℕ → Pending
switch_after pending Controller bytes = pending
switch_after pending Switch bytes = (cut pending bytes).0

-- the table after frames of a side
abbrev pub table_after : List Rule → Side → List (List ℕ) → List Rule
table_after t Controller frames = followed_all t frames
table_after t Switch frames = t

-- the frames that a piece of a side completes
abbrev pub completed : Sides → Side → List ℕ → List (List ℕ)
completed sides side bytes = (cut (pending_of sides side) bytes).1

-- the fault to which a piece of a side leads
abbrev pub fault_after : Sides → Side → List ℕ → Option FrameFault
fault_after sides side bytes = (cut (pending_of sides side) bytes).0.fault

-- a piece came to a session that has not ended
abbrev pub grown : Sides → Side → List ℕ → Sides
grown sides side bytes = record {
  controller = controller_after sides.controller side bytes;
  switch = switch_after sides.switch side bytes;
  table = table_after sides.table side (completed sides side bytes);
  ended = sides.ended;
}

-- a piece came
abbrev pub after_piece : Sides → Side → List ℕ → Sides
after_piece sides side bytes = if sides.ended then sides else grown sides side bytes

abbrev pub closed : Sides → Sides
closed sides = record sides { ended = true }

abbrev pub session_at : List Sides → ℕ → Sides
session_at sessions n = slice_index_or sessions n fresh

-- the sessions in the order of their openings
abbrev pub sessions : List Entry → List Sides
sessions [] = []
sessions (Given Opened ∷ h) = sessions h ++ fresh ∷ []
sessions (Given (Piece n side bytes) ∷ h) = slice_set (sessions h) n (after_piece (session_at (sessions h) n) side bytes)
sessions (Given event ∷ h) = sessions h
sessions (Noted note ∷ h) = sessions h
sessions (Put n to frame lost ∷ h) = sessions h
sessions (End n ∷ h) = slice_set (sessions h) n (closed (session_at (sessions h) n))

abbrev pub sent : ℕ → Side → List (List ℕ) → List Out
sent n to [] = []
sent n to (frame ∷ frames) = Send n to frame ∷ sent n to frames

abbrev pub ending : ℕ → Option FrameFault → List Out
ending n None = []
ending n (Some fault) = Close n ∷ []

-- what a frame of the controller leads to, by its fate: frames for the switch, or an ERROR for the controller
abbrev pub from_fated : ℕ → Fated → List Out
from_fated n x = sent n Switch (passed x) ++ sent n Controller (errors x)

-- by the table
abbrev pub from_frame : ℕ → List Rule → List ℕ → List Out
from_frame n t frame = from_fated n (fated t frame)

-- what frames in order lead to
abbrev pub from_frames : ℕ → List Rule → List (List ℕ) → List Out
from_frames n t frames = flat_map (from_fated n) (fates t frames)

-- what frames of a side lead to: those of the switch go to the controller
abbrev pub from_side : ℕ → List Rule → Side → List (List ℕ) → List Out
from_side n t Controller frames = from_frames n t frames
from_side n t Switch frames = sent n Controller frames

-- what a piece leads to: what the frames lead to that it completes, and a fault ends the session
abbrev pub from_piece : ℕ → Sides → Side → List ℕ → List Out
from_piece n sides side bytes =
    if sides.ended then []
    else from_side n sides.table side (completed sides side bytes) ++ ending n (fault_after sides side bytes)

-- the session after a piece and all that it leads to: one with a fault has ended
abbrev pub after_turn : Sides → Side → List ℕ → Sides
after_turn sides side bytes =
    if sides.ended then sides
    else record (grown sides side bytes) { ended = is_some (fault_after sides side bytes) }

-- what a turn makes of the state: the state after the event and what is put out, in order.
unfoldable pub on_event : Event → List Sides → List Sides × List Out
on_event Opened core = (core ++ fresh ∷ [], [])
on_event (Piece n side bytes) core =
    let session = session_at core n in
    (slice_set core n (after_turn session side bytes), from_piece n session side bytes)
on_event event core = (core, [])

abbrev pub rest_of : List Out → List Out
rest_of [] = []
rest_of (out ∷ outs) = outs

-- what is still to be put out in the turn
abbrev pub owed : List Entry → List Out
owed [] = []
owed (Given Opened ∷ h) = []
owed (Given (Piece n side bytes) ∷ h) = from_piece n (session_at (sessions h) n) side bytes
owed (Given event ∷ h) = []
owed (Noted note ∷ h) = owed h
owed (Put n to frame lost ∷ h) = rest_of (owed h)
owed (End n ∷ h) = rest_of (owed h)

abbrev pub IsFirst : Out → List Out → Type 0
IsFirst out [] = ⊥
IsFirst out (first ∷ outs) = first ≡ out

-- each output was owed as it was put or lost, each input came when nothing was owed, and nothing is noted
abbrev pub LegalSoFar : List Entry → Type 0
LegalSoFar [] = Unit {0}
LegalSoFar (Given event ∷ h) = (owed h ≡ []) × LegalSoFar h
LegalSoFar (Noted note ∷ h) = ⊥
LegalSoFar (Put n to frame lost ∷ h) = IsFirst (Send n to frame) (owed h) × LegalSoFar h
LegalSoFar (End n ∷ h) = IsFirst (Close n) (owed h) × LegalSoFar h

-- each turn is whole too
pub record Legal (h : List Entry) : Type 0 where
  pub so_far : LegalSoFar h
  pub whole : owed h ≡ []

-- how many sessions were opened
abbrev pub openings : List Entry → ℕ
openings [] = 0
openings (Given Opened ∷ h) = openings h + 1
openings (Given event ∷ h) = openings h
openings (Noted note ∷ h) = openings h
openings (Put n to frame lost ∷ h) = openings h
openings (End n ∷ h) = openings h

-- each piece and each closing names a session that was opened
abbrev pub Named : List Entry → Type 0
Named [] = Unit {0}
Named (Given Opened ∷ h) = Named h
Named (Given (Piece m from bytes) ∷ h) = (m < openings h) × Named h
Named (Given (Closed m) ∷ h) = (m < openings h) × Named h
Named (Given event ∷ h) = Named h
Named (Noted note ∷ h) = Named h
Named (Put m to frame lost ∷ h) = Named h
Named (End m ∷ h) = Named h

-- the core's state is the one that a legal history gives
pub record StandsFor (core : List Sides) (h : List Entry) : Type 0 where
  pub state : core ≡ sessions h
  pub legal : Legal h
  pub named : Named h

-- the event is the last that was given, and the core stands for what was before it
abbrev pub WasGiven : Event → List Sides → List Entry → Type 0
WasGiven event core [] = ⊥
WasGiven event core (Given last ∷ h) = (last ≡ event) × StandsFor core h
WasGiven event core (entry ∷ h) = ⊥

-- an output, by whether it was lost
abbrev pub the_out : Bool × Out → Out
the_out put = put.1

abbrev pub outs_of : List (Bool × Out) → List Out
outs_of puts = map the_out puts

-- the outputs on a history, in order
abbrev pub onto : List (Bool × Out) → List Entry → List Entry
onto [] h = h
onto (put ∷ puts) h = onto puts (entry_of put.0 put.1 ∷ h)

abbrev pub logged : List (Bool × Out) → Option (List Entry) → Option (List Entry)
logged puts None = None
logged puts (Some h) = Some (onto puts h)

-- from the first log to the log now these outputs were put or lost, in order
abbrev pub Carried : List Out → Option (List Entry) → Option (List Entry) → Type 0
Carried outs before now = (puts : List (Bool × Out)) × (outs_of puts ≡ outs) × (now ≡ logged puts before)

-- entries came in front of the first log, the newest first, and the log now is both
abbrev pub Came : List Entry → List Entry → List Entry → Type 0
Came entries h k = k ≡ entries ++ h

-- from the first log to the log now so many events came, and none of these was Stop; so the whole log has so many more,
-- and still no Stop where it had none
abbrev pub Ran : Option (List Entry) → Option (List Entry) → ℕ → Type 0
Ran None now turns = now ≡ None
Ran (Some h) None turns = ⊥
Ran (Some h) (Some k) turns =
    (length (inputs k) ≡ length (inputs h) + turns)
    × (NoStop (inputs h) → NoStop (inputs k))
    × (entries : List Entry) × Came entries h k × (length (inputs entries) ≡ turns) × NoStop (inputs entries)

-- from the first log to the log now events came, of which the last and no other was Stop; so Stop is the last event of
-- the whole log, and no other where it had none
abbrev pub RanToStop : Option (List Entry) → Option (List Entry) → Type 0
RanToStop None now = now ≡ None
RanToStop (Some h) None = ⊥
RanToStop (Some h) (Some k) =
    (NoStop (inputs h) → StopsNow (inputs k)) × (entries : List Entry) × Came entries h k × StopsNow (inputs entries)

-- the number and the table of each session that has not ended, by rising number from a first one on
abbrev pub armed_from : ℕ → List Sides → List (ℕ × List Rule)
armed_from n [] = []
armed_from n (sides ∷ core) = if sides.ended then armed_from (suc n) core else (n, sides.table) ∷ armed_from (suc n) core

-- those of a core
abbrev pub armed : List Sides → List (ℕ × List Rule)
armed core = armed_from 0 core
