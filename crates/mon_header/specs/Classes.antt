-- The classes of headers that a probe's frame can have (IEEE 802.1Q, RFC 791, RFC 826).
use Rattle.std.specs.Prelude.{ℕ, ◌^◌, ◌%◌, Bool, not, ◌==◌, nat_lt, nat_le, ◌&&◌, ◌||◌}
use Rattle.mon_header.specs.declared.class.Class.{Class}
use Rattle.mon_header.specs.declared.class.Class.TheVariants.{Tcp, Udp, Icmp, OtherIpv4, Plain, Arp}
use Rattle.mon_header.specs.declared.header.Header.{Header}
use Rattle.mon_header.specs.Assigned.{LEAST_TYPE, IPV4_TYPE, ARP_TYPE, TAG_TYPE, SERVICE_TAG_TYPE, PAUSE_TYPE, SLOW_TYPE, ICMP_PROTOCOL, TCP_PROTOCOL, UDP_PROTOCOL, VLAN_IDS, UNTAGGED}

-- the numbers fit their fields
unfoldable pub fits : Header → Bool
fits h =
    nat_lt h.in_port (2 ^ 16)
    && (nat_lt h.dl_src (2 ^ 48)
    && (nat_lt h.dl_dst (2 ^ 48)
    && (nat_lt h.dl_vlan (2 ^ 16)
    && (nat_lt h.dl_vlan_pcp (2 ^ 8)
    && (nat_lt h.dl_type (2 ^ 16)
    && (nat_lt h.nw_tos (2 ^ 8)
    && (nat_lt h.nw_proto (2 ^ 8)
    && (nat_lt h.nw_src (2 ^ 32)
    && (nat_lt h.nw_dst (2 ^ 32)
    && (nat_lt h.tp_src (2 ^ 16)
    && nat_lt h.tp_dst (2 ^ 16)))))))))))

-- a tag has a VLAN id of 12 bits and a priority of 3; an untagged frame has the priority 0
unfoldable pub has_tag_fields : Header → Bool
has_tag_fields h = (nat_lt h.dl_vlan VLAN_IDS || ((h.dl_vlan == UNTAGGED) && (h.dl_vlan_pcp == 0))) && nat_lt h.dl_vlan_pcp 8

-- neither protocol, addresses nor ports
unfoldable pub has_no_network_fields : Header → Bool
has_no_network_fields h =
    (h.nw_tos == 0) && ((h.nw_proto == 0) && ((h.nw_src == 0) && ((h.nw_dst == 0) && ((h.tp_src == 0) && (h.tp_dst == 0)))))

-- the type of a frame without a further header that a switch reads: no length, IPv4, ARP, tag, pause or slow protocol
unfoldable pub is_plain_type : ℕ → Bool
is_plain_type n =
    nat_le LEAST_TYPE n
    && (not (n == IPV4_TYPE) && (not (n == ARP_TYPE) && (not (n == TAG_TYPE)
    && (not (n == SERVICE_TAG_TYPE) && (not (n == PAUSE_TYPE) && not (n == SLOW_TYPE))))))

-- what one class asks
unfoldable pub has_form : Class → Header → Bool
has_form Tcp h = (h.dl_type == IPV4_TYPE) && (h.nw_proto == TCP_PROTOCOL)
has_form Udp h = (h.dl_type == IPV4_TYPE) && (h.nw_proto == UDP_PROTOCOL)
has_form Icmp h = (h.dl_type == IPV4_TYPE) && ((h.nw_proto == ICMP_PROTOCOL) && (nat_lt h.tp_src 256 && nat_lt h.tp_dst 256))
has_form OtherIpv4 h =
    (h.dl_type == IPV4_TYPE)
    && (not (h.nw_proto == ICMP_PROTOCOL) && (not (h.nw_proto == TCP_PROTOCOL) && (not (h.nw_proto == UDP_PROTOCOL) && ((h.tp_src == 0) && (h.tp_dst == 0)))))
has_form Plain h = is_plain_type h.dl_type && has_no_network_fields h
has_form Arp h = (h.dl_type == ARP_TYPE) && ((h.nw_tos == 0) && ((h.tp_src == 0) && (h.tp_dst == 0)))

-- the header is in this class
unfoldable pub is_in_class : Class → Header → Bool
is_in_class c h = fits h && (has_tag_fields h && ((h.nw_tos % 4 == 0) && has_form c h))

-- the header is in some class
unfoldable pub in_class : Header → Bool
in_class h =
    is_in_class Tcp h
    || (is_in_class Udp h || (is_in_class Icmp h || (is_in_class OtherIpv4 h || (is_in_class Plain h || is_in_class Arp h))))
