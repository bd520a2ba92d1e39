-- What actions make of a header (OpenFlow 1.0.0, flow action structures), one after the other.
use Rattle.std.specs.Prelude.{◌*◌, ◌/◌, ◌%◌, Bool, ◌==◌, ◌&&◌, ◌||◌, if◌then◌else◌, List, [], ◌∷◌}
use Rattle.mon_header.specs.declared.header.Header.{Header}
use Rattle.mon_header.specs.Assigned.{IPV4_TYPE, TCP_PROTOCOL, UDP_PROTOCOL, VLAN_IDS, UNTAGGED}
use Rattle.mon_header.specs.declared.action.Action.{Action}
use Rattle.mon_header.specs.declared.action.Action.TheVariants.{Output, SetVlanVid, SetVlanPcp, StripVlan, SetDlSrc, SetDlDst, SetNwSrc, SetNwDst, SetNwTos, SetTpSrc, SetTpDst, Enqueue, Unknown}

-- the packet bears no VLAN tag
abbrev pub is_untagged : Header → Bool
is_untagged h = h.dl_vlan == UNTAGGED

-- the packet has the fields of IPv4
abbrev pub is_ipv4 : Header → Bool
is_ipv4 h = h.dl_type == IPV4_TYPE

-- the packet has the ports of TCP or UDP
abbrev pub has_ports : Header → Bool
has_ports h = is_ipv4 h && ((h.nw_proto == TCP_PROTOCOL) || (h.nw_proto == UDP_PROTOCOL))

-- the header after one action
abbrev pub act : Action → Header → Header
act (Output port max_len) h = h
act (SetVlanVid vid) h = record h { dl_vlan = vid % VLAN_IDS; dl_vlan_pcp = if is_untagged h then 0 else h.dl_vlan_pcp }
act (SetVlanPcp pcp) h = record h { dl_vlan = if is_untagged h then 0 else h.dl_vlan; dl_vlan_pcp = pcp % 8 }
act StripVlan h = record h { dl_vlan = UNTAGGED; dl_vlan_pcp = 0 }
act (SetDlSrc address) h = record h { dl_src = address }
act (SetDlDst address) h = record h { dl_dst = address }
act (SetNwSrc address) h = record h { nw_src = if is_ipv4 h then address else h.nw_src }
act (SetNwDst address) h = record h { nw_dst = if is_ipv4 h then address else h.nw_dst }
act (SetNwTos tos) h = record h { nw_tos = if is_ipv4 h then tos / 4 * 4 else h.nw_tos }
act (SetTpSrc port) h = record h { tp_src = if has_ports h then port else h.tp_src }
act (SetTpDst port) h = record h { tp_dst = if has_ports h then port else h.tp_dst }
act (Enqueue port queue) h = h
act (Unknown bytes) h = h

-- the header after all actions
abbrev pub apply : List Action → Header → Header
apply [] h = h
apply (action ∷ actions) h = apply actions (act action h)
