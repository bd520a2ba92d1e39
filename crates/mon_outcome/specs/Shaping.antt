-- The shapes of emissions: what actions emit of each header of a class that came in at one port.
use Rattle.std.specs.Prelude.{◌≡◌, ◌≢◌, ℕ, ◌*◌, ◌/◌, ◌%◌, Bool, true, false, ◌==◌, if◌then◌else◌, List, [], ◌∷◌, map, Option, Some, None}
use Rattle.mon_header.specs.declared.class.Class.{Class}
use Rattle.mon_header.specs.declared.class.Class.TheVariants.{Tcp, Udp, Plain, Arp}
use Rattle.mon_header.specs.declared.header.Header.{Header}
use Rattle.mon_header.specs.declared.action.Action.{Action}
use Rattle.mon_header.specs.declared.action.Action.TheVariants.{Output, SetVlanVid, SetVlanPcp, StripVlan, SetDlSrc, SetDlDst, SetNwSrc, SetNwDst, SetNwTos, SetTpSrc, SetTpDst, Enqueue, Unknown}
use Rattle.mon_header.specs.Assigned.{VLAN_IDS, UNTAGGED}
use Rattle.mon_header.specs.Classes.{is_in_class}
use Rattle.mon_outcome.specs.declared.door.Door.{Door}
use Rattle.mon_outcome.specs.declared.rewrite.Rewrite.{Rewrite}
use Rattle.mon_outcome.specs.declared.shape.Shape.{Shape}
use Rattle.mon_outcome.specs.Emitting.{door_of, through, Emitted, emissions}
use Rattle.mon_outcome.specs.Filling.{filled}

-- nothing is fixed
abbrev pub copied : Rewrite
copied = record {
  in_port = None;
  dl_src = None;
  dl_dst = None;
  dl_vlan = None;
  dl_vlan_pcp = None;
  dl_type = None;
  nw_tos = None;
  nw_proto = None;
  nw_src = None;
  nw_dst = None;
  tp_src = None;
  tp_dst = None;
}

-- the tag was taken off
abbrev pub is_stripped : Option ℕ → Bool
is_stripped None = false
is_stripped (Some vlan) = vlan == UNTAGGED

-- headers of the class are IPv4
abbrev pub is_ipv4_class : Class → Bool
is_ipv4_class Plain = false
is_ipv4_class Arp = false
is_ipv4_class other = true

-- headers of the class have the ports of TCP or UDP
abbrev pub has_class_ports : Class → Bool
has_class_ports Tcp = true
has_class_ports Udp = true
has_class_ports other = false

-- the rewrite after one more action
abbrev pub rewritten : Class → Action → Rewrite → Rewrite
rewritten c (Output port max_len) r = r
rewritten c (SetVlanVid vid) r =
    record r { dl_vlan = Some (vid % VLAN_IDS); dl_vlan_pcp = if is_stripped r.dl_vlan then Some 0 else r.dl_vlan_pcp }
rewritten c (SetVlanPcp pcp) r =
    record r { dl_vlan = if is_stripped r.dl_vlan then Some 0 else r.dl_vlan; dl_vlan_pcp = Some (pcp % 8) }
rewritten c StripVlan r = record r { dl_vlan = Some UNTAGGED; dl_vlan_pcp = Some 0 }
rewritten c (SetDlSrc address) r = record r { dl_src = Some address }
rewritten c (SetDlDst address) r = record r { dl_dst = Some address }
rewritten c (SetNwSrc address) r = record r { nw_src = if is_ipv4_class c then Some address else r.nw_src }
rewritten c (SetNwDst address) r = record r { nw_dst = if is_ipv4_class c then Some address else r.nw_dst }
rewritten c (SetNwTos tos) r = record r { nw_tos = if is_ipv4_class c then Some (tos / 4 * 4) else r.nw_tos }
rewritten c (SetTpSrc port) r = record r { tp_src = if has_class_ports c then Some port else r.tp_src }
rewritten c (SetTpDst port) r = record r { tp_dst = if has_class_ports c then Some port else r.tp_dst }
rewritten c (Enqueue port queue) r = r
rewritten c (Unknown bytes) r = r

-- an action's shape, before those of the actions behind it
abbrev pub with_shape : Option Door → Rewrite → List Shape → List Shape
with_shape None r rest = rest
with_shape (Some door) r rest = record { door = door; bits = r } ∷ rest

-- the shapes of actions that begin with this rewrite
abbrev pub shapes_from : Class → ℕ → List Action → Rewrite → List Shape
shapes_from c in_port [] r = []
shapes_from c in_port (action ∷ actions) r =
    with_shape (door_of action in_port) r (shapes_from c in_port actions (rewritten c action r))

-- the shapes of actions
abbrev pub shapes_of : List Action → Class → ℕ → List Shape
shapes_of actions c in_port = shapes_from c in_port actions copied

-- what a shape is for a header
abbrev pub emitted_by : Header → Shape → Emitted
emitted_by h shape = through shape.door (filled shape.bits h)

-- for each tagged header of the class that came in at the port, the shapes are its emissions, in order
abbrev pub AreEmissions : List Shape → List Action → Class → ℕ → Type 0
AreEmissions shapes actions c in_port =
    (h : Header) → is_in_class c h ≡ true → h.in_port ≡ in_port → h.dl_vlan ≢ UNTAGGED
    → map (emitted_by h) shapes ≡ emissions actions h
