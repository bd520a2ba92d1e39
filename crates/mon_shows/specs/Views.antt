-- What the neighbours of a switch can show of it.
use Rattle.std.specs.Prelude.{ℕ, ◌≤◌, Bool, true, false, not, ◌==◌, nat_le, ◌&&◌, List, Option, Some, None}
use Rattle.std.specs.List.{list_any}
use Rattle.std.specs.Option.{option_map}
use Rattle.mon_header.specs.declared.header.Header.{Header}
use Rattle.mon_header.specs.Wild.{bit}
use Rattle.mon_header.specs.Classes.{in_class}
use Rattle.mon_outcome.specs.declared.emission.Emission.{Emission}
use Rattle.mon_outcome.specs.declared.emission.Emission.TheVariants.{Port, Controller, Miss}
use Rattle.mon_shows.specs.declared.near.Near.{Near}
use Rattle.mon_shows.specs.declared.seen.Seen.{Seen}
use Rattle.mon_shows.specs.Links.{PortsAscend, link_at}
use Rattle.mon_topo.specs.Ascending.{LAST_VID}

-- a switch, its tag, the tags in use, its links, and how many bytes of a miss its controller gets
pub record Viewing : Type 0 where
  pub switch : ℕ
  pub tag : ℕ
  pub tags : List ℕ
  pub links : List Near
  pub miss : ℕ

-- what each view keeps: a VLAN id that a tag may bear (IEEE 802.1Q), and links by ascending port
pub record IsView (v : Viewing) : Type 0 where
  pub tag_low : 1 ≤ v.tag
  pub tag_high : v.tag ≤ LAST_VID
  pub ascending : PortsAscend 0 v.links

-- the destination that marks packets which a rule drops: 02:4d:4f:4e:4f:00
abbrev pub MARK : ℕ
MARK = 0x024d4f4e4f00

-- one of the links is at this port
abbrev pub has_link : ℕ → List Near → Bool
has_link port links = list_any (λ n. n.port == port) links

-- the address is one station's: its group bit is 0 (IEEE 802)
abbrev pub is_unicast : ℕ → Bool
is_unicast address = not (bit address 40)

-- the addresses that bridges keep to themselves (IEEE 802.1Q, reserved addresses)
abbrev pub FIRST_RESERVED : ℕ
FIRST_RESERVED = 0x0180c2000000

abbrev pub LAST_RESERVED : ℕ
LAST_RESERVED = 0x0180c200000f

-- the address is neither the one that marks dropped packets, nor one of these
unfoldable pub is_open : ℕ → Bool
is_open address = not (address == MARK) && not (nat_le FIRST_RESERVED address && nat_le address LAST_RESERVED)

-- a probe can have this header: it is in a class, came in at the port of a link with the switch's own tag, from one
-- station, to an address that is open
unfoldable pub craftable : Viewing → Header → Bool
craftable v h =
    in_class h && (has_link h.in_port v.links && ((h.dl_vlan == v.tag) && (is_unicast h.dl_src && is_open h.dl_dst)))

-- the VLAN id is one of the tags
abbrev pub is_in_use : ℕ → List ℕ → Bool
is_in_use vlan tags = list_any (λ tag. tag == vlan) tags

-- there is a neighbour, and the VLAN id is a tag in use other than its own
abbrev pub is_caught_by : ℕ → List ℕ → Option Near → Bool
is_caught_by vlan tags None = false
is_caught_by vlan tags (Some n) = is_in_use vlan tags && not (vlan == n.tag)

-- the emission comes back to the proxy: by a neighbour's catching rule, or from the switch with the bytes of a whole probe
abbrev pub caught : Viewing → Emission → Bool
caught v (Port p h) = is_caught_by h.dl_vlan v.tags (link_at p v.links)
caught v (Controller h) = true
caught v (Miss h) = nat_le 128 v.miss

-- what a neighbour's PACKET_IN shows of a packet that came to it by the link; reason 1 is OFPR_ACTION
abbrev pub seen_by : Header → Near → Seen
seen_by h n = record { switch = n.switch; port = n.far_port; reason = 1; header = record h { in_port = n.far_port } }

-- what the switch's own PACKET_IN shows; reason 0 is OFPR_NO_MATCH
abbrev pub seen_here : ℕ → ℕ → Header → Seen
seen_here switch reason h = record { switch = switch; port = h.in_port; reason = reason; header = h }

-- what the PACKET_IN of an emission shows; None where it leaves by a port without a link
abbrev pub observed : Viewing → Emission → Option Seen
observed v (Port p h) = option_map (seen_by h) (link_at p v.links)
observed v (Controller h) = Some (seen_here v.switch 1 h)
observed v (Miss h) = Some (seen_here v.switch 0 h)
