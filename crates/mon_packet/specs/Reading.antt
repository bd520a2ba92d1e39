-- How a frame is read (IEEE 802.1Q, RFC 791, 9293, 768, 792, 826).
use Rattle.std.specs.Prelude.{ℕ, ◌*◌, ◌-◌, ◌/◌, ◌%◌, Bool, not, ◌==◌, nat_le, ◌&&◌, if◌then◌else◌, List, drop, take, length, slice_index, Option, Some, None}
use Rattle.mon_fields.specs.Fields.{number_at}
use Rattle.mon_header.specs.declared.header.Header.{Header}
use Rattle.mon_header.specs.declared.header.TheConstants.{BLANK}
use Rattle.mon_header.specs.Assigned.{LEAST_TYPE, IPV4_TYPE, ARP_TYPE, TAG_TYPE, SERVICE_TAG_TYPE, ICMP_PROTOCOL, TCP_PROTOCOL, UDP_PROTOCOL, VLAN_IDS, UNTAGGED}
use Rattle.mon_packet.specs.declared.nonce.Nonce.{Nonce}
use Rattle.mon_packet.specs.declared.ethernet.Ethernet.{Ethernet}
use Rattle.mon_packet.specs.declared.transport.Transport.{Transport}

-- the nonce of a payload: it is there where the mark is, with 16 bytes behind it
unfoldable pub nonce_of : List ℕ → Option Nonce
nonce_of payload =
    if nat_le 24 (length payload) && (number_at 8 0 payload == 0x4d4f4e4f434c4531)
    then Some (record { key = number_at 8 8 payload; serial = number_at 8 16 payload })
    else None

-- a type at this place, and neither a length nor a further tag
abbrev pub is_type : ℕ → Bool
is_type n = nat_le LEAST_TYPE n && (not (n == TAG_TYPE) && not (n == SERVICE_TAG_TYPE))

-- the header of Ethernet with its type just before this place, and this tag
abbrev pub typed : List ℕ → ℕ → ℕ → ℕ → Option Ethernet
typed bytes vlan pcp end =
    if nat_le end (length bytes) && is_type (number_at 2 (end - 2) bytes)
    then Some (record {
      dl_src = number_at 6 6 bytes;
      dl_dst = number_at 6 0 bytes;
      dl_vlan = vlan;
      dl_vlan_pcp = pcp;
      dl_type = number_at 2 (end - 2) bytes;
      size = end;
    })
    else None

-- the header of Ethernet, with at most one tag, of which one bit is ignored
unfoldable pub ethernet_of : List ℕ → Option Ethernet
ethernet_of bytes =
    if nat_le 16 (length bytes) && (number_at 2 12 bytes == TAG_TYPE)
    then typed bytes (number_at 2 14 bytes % VLAN_IDS) (number_at 2 14 bytes / 8192) 18
    else typed bytes UNTAGGED 0 14

-- the total length that a packet of IPv4 says
abbrev pub total_of : List ℕ → ℕ
total_of packet = number_at 2 2 packet

-- a packet of IPv4 without options, whole and in one fragment
unfoldable pub is_ipv4 : List ℕ → Bool
is_ipv4 packet =
    nat_le 20 (length packet)
    && ((slice_index packet 0 == 0x45)
    && (nat_le 20 (total_of packet)
    && (nat_le (total_of packet) (length packet)
    && (number_at 2 6 packet % 16384 == 0))))

-- the ports of TCP, whose header has no options
unfoldable pub tcp_of : List ℕ → Option Transport
tcp_of packet =
    if nat_le 40 (total_of packet) && (slice_index packet 32 / 16 == 5)
    then Some (record { tp_src = number_at 2 20 packet; tp_dst = number_at 2 22 packet; end = 40 })
    else None

-- the ports of UDP, which says the same length as IPv4
unfoldable pub udp_of : List ℕ → Option Transport
udp_of packet =
    if nat_le 28 (total_of packet) && (number_at 2 24 packet == total_of packet - 20)
    then Some (record { tp_src = number_at 2 20 packet; tp_dst = number_at 2 22 packet; end = 28 })
    else None

-- the type and the code of ICMP
unfoldable pub icmp_of : List ℕ → Option Transport
icmp_of packet =
    if nat_le 28 (total_of packet)
    then Some (record { tp_src = slice_index packet 20; tp_dst = slice_index packet 21; end = 28 })
    else None

-- what stands between the header of IPv4 and the payload
unfoldable pub transport_of : ℕ → List ℕ → Option Transport
transport_of protocol packet =
    if protocol == TCP_PROTOCOL then tcp_of packet
    else (if protocol == UDP_PROTOCOL then udp_of packet
    else (if protocol == ICMP_PROTOCOL then icmp_of packet
    else Some (record { tp_src = 0; tp_dst = 0; end = 20 })))

-- the header of a frame of another type than IPv4 and ARP
unfoldable pub plain_header : Ethernet → Header
plain_header e = record BLANK {
  dl_src = e.dl_src;
  dl_dst = e.dl_dst;
  dl_vlan = e.dl_vlan;
  dl_vlan_pcp = e.dl_vlan_pcp;
  dl_type = e.dl_type;
}

-- the header of a frame of IPv4
unfoldable pub ipv4_fields : Ethernet → Transport → List ℕ → Header
ipv4_fields e t packet = record (plain_header e) {
  nw_tos = slice_index packet 1 / 4 * 4;
  nw_proto = slice_index packet 9;
  nw_src = number_at 4 12 packet;
  nw_dst = number_at 4 16 packet;
  tp_src = t.tp_src;
  tp_dst = t.tp_dst;
}

-- a packet of ARP that gives addresses of Ethernet, which have 6 bytes, to those of IPv4, which have 4
unfoldable pub is_arp : List ℕ → Bool
is_arp packet =
    nat_le 28 (length packet)
    && ((number_at 2 0 packet == 1)
    && ((number_at 2 2 packet == IPV4_TYPE)
    && ((slice_index packet 4 == 6)
    && (slice_index packet 5 == 4))))

-- the header of a frame of ARP: the low byte of the operation is the protocol
unfoldable pub arp_fields : Ethernet → List ℕ → Header
arp_fields e packet = record (plain_header e) {
  nw_proto = number_at 2 6 packet % 256;
  nw_src = number_at 4 14 packet;
  nw_dst = number_at 4 24 packet;
}

abbrev pub Read : Type 0
Read = Option (Header × Option Nonce)

-- the payload ends where the packet's total length does
abbrev pub with_transport : Ethernet → List ℕ → Option Transport → Read
with_transport e packet None = None
with_transport e packet (Some t) = Some (ipv4_fields e t packet, nonce_of (drop t.end (take (total_of packet) packet)))

-- a packet of IPv4
abbrev pub packet_of : Ethernet → List ℕ → Read
packet_of e packet =
    if is_ipv4 packet then with_transport e packet (transport_of (slice_index packet 9) packet) else None

-- a packet of ARP, and the payload behind it
abbrev pub arp_of : Ethernet → List ℕ → Read
arp_of e packet = if is_arp packet then Some (arp_fields e packet, nonce_of (drop 28 packet)) else None

-- what follows the header of Ethernet
abbrev pub with_ethernet : List ℕ → Option Ethernet → Read
with_ethernet bytes None = None
with_ethernet bytes (Some e) =
    if e.dl_type == IPV4_TYPE then packet_of e (drop e.size bytes)
    else (if e.dl_type == ARP_TYPE then arp_of e (drop e.size bytes)
    else Some (plain_header e, nonce_of (drop e.size bytes)))

-- the header and the nonce of a frame; the port at which it came in is not in it
abbrev pub parsed : List ℕ → Read
parsed bytes = with_ethernet bytes (ethernet_of bytes)
