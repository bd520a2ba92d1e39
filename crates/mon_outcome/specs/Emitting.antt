-- What actions emit (OpenFlow 1.0.0, flow action structures).
use Rattle.std.specs.Prelude.{◌≡◌, ℕ, zero, suc, Bool, true, false, not, ◌==◌, nat_le, ◌&&◌, ◌||◌, if◌then◌else◌, List, [], ◌∷◌, Option, Some, None}
use Rattle.mon_header.specs.declared.class.Class.{Class}
use Rattle.mon_header.specs.declared.header.Header.{Header}
use Rattle.mon_header.specs.declared.action.Action.{Action}
use Rattle.mon_header.specs.declared.action.Action.TheVariants.{Output, SetVlanVid, SetVlanPcp, StripVlan, SetDlSrc, SetDlDst, SetNwSrc, SetNwDst, SetNwTos, SetTpSrc, SetTpDst, Enqueue, Unknown}
use Rattle.mon_header.specs.Assigned.{LAST_PORT, IN_PORT, CONTROLLER_PORT}
use Rattle.mon_header.specs.Classes.{is_in_class}
use Rattle.mon_header.specs.Same.{same_header}
use Rattle.mon_outcome.specs.declared.door.Door.{Door}
use Rattle.mon_outcome.specs.declared.door.Door.TheVariants as door
use Rattle.mon_outcome.specs.declared.emission.Emission.{Emission}
use Rattle.mon_outcome.specs.declared.emission.Emission.TheVariants.{Port, Controller, Miss}
use Rattle.mon_outcome.specs.Acting.{act}

-- a port of the switch, not one of the reserved numbers
abbrev pub is_port : ℕ → Bool
is_port port = nat_le port LAST_PORT

-- what a switch does by this action isn't known: it leaves by a reserved port other than IN_PORT and CONTROLLER, or
-- the standard has no such action
abbrev pub is_unknown : Action → Bool
is_unknown (Output port max_len) = not (is_port port || ((port == IN_PORT) || (port == CONTROLLER_PORT)))
is_unknown (SetVlanVid vid) = false
is_unknown (SetVlanPcp pcp) = false
is_unknown StripVlan = false
is_unknown (SetDlSrc address) = false
is_unknown (SetDlDst address) = false
is_unknown (SetNwSrc address) = false
is_unknown (SetNwDst address) = false
is_unknown (SetNwTos tos) = false
is_unknown (SetTpSrc port) = false
is_unknown (SetTpDst port) = false
is_unknown (Enqueue port queue) = not (is_port port || (port == IN_PORT))
is_unknown (Unknown bytes) = true

-- some action is unknown
abbrev pub any_unknown : List Action → Bool
any_unknown [] = false
any_unknown (action ∷ actions) = is_unknown action || any_unknown actions

-- the port by which a packet that came in at `in_port` leaves for the port that an action names; none back to `in_port`
-- but by IN_PORT
abbrev pub port_door : ℕ → ℕ → Option Door
port_door port in_port =
    if is_port port then (if port == in_port then None else Some (door.Port port))
    else (if port == IN_PORT then Some (door.Port in_port) else None)

-- the door by which an action emits a packet that came in at `in_port`, where that is known; the controller gets the
-- whole packet where it takes 128 bytes or more
abbrev pub door_of : Action → ℕ → Option Door
door_of (Output port max_len) in_port =
    if port == CONTROLLER_PORT then Some (door.Controller (nat_le 128 max_len)) else port_door port in_port
door_of (SetVlanVid vid) in_port = None
door_of (SetVlanPcp pcp) in_port = None
door_of StripVlan in_port = None
door_of (SetDlSrc address) in_port = None
door_of (SetDlDst address) in_port = None
door_of (SetNwSrc address) in_port = None
door_of (SetNwDst address) in_port = None
door_of (SetNwTos tos) in_port = None
door_of (SetTpSrc port) in_port = None
door_of (SetTpDst port) in_port = None
door_of (Enqueue port queue) in_port = port_door port in_port
door_of (Unknown bytes) in_port = None

-- an emission, and whether it shows the whole packet
abbrev pub Emitted : Type 0
Emitted = Emission × Bool

-- what leaves by a door
abbrev pub through : Door → Header → Emitted
through (door.Port port) h = (Port port h, true)
through (door.Controller whole) h = (Controller h, whole)

-- an action's emission, before those of the actions behind it
abbrev pub with_emission : Option Door → Header → List Emitted → List Emitted
with_emission None h rest = rest
with_emission (Some door) h rest = through door h ∷ rest

-- the emissions that are known, in order, each with the header as it stands then
abbrev pub emissions : List Action → Header → List Emitted
emissions [] h = []
emissions (action ∷ actions) h = with_emission (door_of action h.in_port) h (emissions actions (act action h))

-- the emission at a position
abbrev pub emission_at : List Emitted → ℕ → Option Emission
emission_at [] position = None
emission_at (m ∷ rest) zero = Some m.0
emission_at (m ∷ rest) (suc position) = emission_at rest position

-- two emissions are equal
abbrev pub same_emission : Emission → Emission → Bool
same_emission (Port p a) (Port q b) = (p == q) && same_header a b
same_emission (Port p a) (Controller b) = false
same_emission (Port p a) (Miss b) = false
same_emission (Controller a) (Port q b) = false
same_emission (Controller a) (Controller b) = same_header a b
same_emission (Controller a) (Miss b) = false
same_emission (Miss a) (Port q b) = false
same_emission (Miss a) (Controller b) = false
same_emission (Miss a) (Miss b) = same_header a b

-- the emission is among these
abbrev pub is_among : Emission → List Emitted → Bool
is_among e [] = false
is_among e (m ∷ rest) = same_emission m.0 e || is_among e rest

-- the emission is among these, and shows the whole packet
abbrev pub is_among_whole : Emission → List Emitted → Bool
is_among_whole e [] = false
is_among_whole e (m ∷ rest) = (m.1 && same_emission m.0 e) || is_among_whole e rest

-- whatever the switch does by its freedom, it emits this
unfoldable pub must : List Action → Header → Emission → Bool
must actions h e = not (any_unknown actions) && is_among_whole e (emissions actions h)

-- the switch can emit this
unfoldable pub may : List Action → Header → Emission → Bool
may actions h e = any_unknown actions || is_among e (emissions actions h)

-- the header that an emission shows
abbrev pub shown : Emission → Header
shown (Port port h) = h
shown (Controller h) = h
shown (Miss h) = h

-- each of these emissions shows a header of the class
abbrev pub AllShow : Class → List Emitted → Type 0
AllShow c [] = Unit {0}
AllShow c (m ∷ rest) = (is_in_class c (shown m.0) ≡ true) × AllShow c rest
