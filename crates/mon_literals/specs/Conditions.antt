-- The headers of probes of one class and port, as clauses.
use Rattle.std.specs.Prelude.{ℕ, ◌+◌, Bool, nat_le, List, [], ◌∷◌, ◌++◌, flat_map}
use Rattle.mon_cnf.specs.declared.clause.Lit.{Lit}
use Rattle.mon_header.specs.declared.class.Class.{Class}
use Rattle.mon_header.specs.declared.class.Class.TheVariants.{Tcp, Udp, Icmp, OtherIpv4, Plain, Arp}
use Rattle.mon_header.specs.Assigned.{IPV4_TYPE, ARP_TYPE, TAG_TYPE, SERVICE_TAG_TYPE, PAUSE_TYPE, SLOW_TYPE, ICMP_PROTOCOL, TCP_PROTOCOL, UDP_PROTOCOL}
use Rattle.mon_header.specs.Places.{header_size}
use Rattle.mon_shows.specs.Views.{Viewing, MARK}
use Rattle.mon_literals.specs.declared.condition.Condition.{Condition}
use Rattle.mon_literals.specs.declared.condition.Condition.TheVariants.{Is, IsNot}
use Rattle.mon_literals.specs.Runs.{run, spelled}
use Rattle.mon_literals.specs.Clauses.{denied, alone}

-- the run ends within the bits of a header
abbrev pub is_in_header : Condition → Bool
is_in_header (Is r) = nat_le (r.start + r.count) header_size
is_in_header (IsNot r) = nat_le (r.start + r.count) header_size

-- the type of a frame without a further header that a switch reads: one of at least 0x0600, by its upper seven bits, and
-- none of these
abbrev pub plain_type : List Condition
plain_type =
    IsNot (run 136 7 0) ∷ IsNot (run 136 7 1) ∷ IsNot (run 136 7 2)
    ∷ IsNot (run 136 16 IPV4_TYPE) ∷ IsNot (run 136 16 ARP_TYPE) ∷ IsNot (run 136 16 TAG_TYPE)
    ∷ IsNot (run 136 16 SERVICE_TAG_TYPE) ∷ IsNot (run 136 16 PAUSE_TYPE) ∷ IsNot (run 136 16 SLOW_TYPE)
    ∷ []

-- neither protocol, addresses nor ports
abbrev pub no_network_fields : List Condition
no_network_fields =
    Is (run 152 8 0) ∷ Is (run 160 8 0) ∷ Is (run 168 32 0) ∷ Is (run 200 32 0) ∷ Is (run 232 16 0) ∷ Is (run 248 16 0) ∷ []

-- what the class asks: the type of IPv4 and the protocol; of ICMP also a type and a code below 256; or none of these
-- protocols, and no ports; or a plain type, and nothing else; or the type of ARP, and neither a type of service nor ports
abbrev pub form_of : Class → List Condition
form_of Tcp = Is (run 136 16 IPV4_TYPE) ∷ Is (run 160 8 TCP_PROTOCOL) ∷ []
form_of Udp = Is (run 136 16 IPV4_TYPE) ∷ Is (run 160 8 UDP_PROTOCOL) ∷ []
form_of Icmp = Is (run 136 16 IPV4_TYPE) ∷ Is (run 160 8 ICMP_PROTOCOL) ∷ Is (run 232 8 0) ∷ Is (run 248 8 0) ∷ []
form_of OtherIpv4 =
    Is (run 136 16 IPV4_TYPE) ∷ IsNot (run 160 8 ICMP_PROTOCOL) ∷ IsNot (run 160 8 TCP_PROTOCOL) ∷ IsNot (run 160 8 UDP_PROTOCOL)
    ∷ Is (run 232 16 0) ∷ Is (run 248 16 0) ∷ []
form_of Plain = plain_type ++ no_network_fields
form_of Arp = Is (run 136 16 ARP_TYPE) ∷ Is (run 152 8 0) ∷ Is (run 232 16 0) ∷ Is (run 248 16 0) ∷ []

-- what is asked whatever the class: the port and the tag, a VLAN priority below 8, a source that is one station, a
-- destination that is neither the mark of dropped packets nor one that bridges keep to themselves, whose upper 44 bits
-- agree, and the two low bits of the type of service at 0
abbrev pub shared_of : ℕ → ℕ → List Condition
shared_of tag in_port =
    Is (run 0 16 in_port) ∷ Is (run 112 16 tag) ∷ Is (run 128 5 0) ∷ Is (run 23 1 0)
    ∷ IsNot (run 64 48 MARK) ∷ IsNot (run 64 44 0x0180c200000) ∷ Is (run 158 2 0) ∷ []

-- the clauses of one condition
abbrev pub asked : Condition → List (List Lit)
asked (Is r) = alone (spelled r)
asked (IsNot r) = denied (spelled r) ∷ []

-- a header that a probe can have in the view is of this class, and came in at this port
unfoldable pub class_clauses : Viewing → Class → ℕ → List (List Lit)
class_clauses view class in_port = flat_map asked (shared_of view.tag in_port ++ form_of class)
