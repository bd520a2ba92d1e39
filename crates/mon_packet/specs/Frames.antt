-- The layout of probe frames (IEEE 802.1Q, RFC 791, 9293, 768, 792, 826).
use Rattle.std.specs.Prelude.{ℕ, ◌+◌, ◌*◌, ◌-◌, ◌==◌, if◌then◌else◌, List, [], ◌∷◌, ◌++◌, length, replicate}
use Rattle.byteorder.specs.Endian.{big_bytes}
use Rattle.mon_header.specs.declared.header.Header.{Header}
use Rattle.mon_header.specs.Assigned.{IPV4_TYPE, ARP_TYPE, TAG_TYPE, ICMP_PROTOCOL, TCP_PROTOCOL, UDP_PROTOCOL, UNTAGGED}
use Rattle.mon_packet.specs.declared.nonce.Nonce.{Nonce}
use Rattle.mon_packet.specs.Sums.{checksum, not_zero}

-- the 24 bytes that a probe carries: its mark, the key of the run and the serial
unfoldable pub payload : Nonce → List ℕ
payload n = big_bytes 8 0x4d4f4e4f434c4531 ++ (big_bytes 8 n.key ++ big_bytes 8 n.serial)

-- where the frame comes from and goes to, its tag if it has one, and its type
unfoldable pub ethernet_header : Header → List ℕ
ethernet_header h =
    big_bytes 6 h.dl_dst
    ++ (big_bytes 6 h.dl_src
    ++ (if h.dl_vlan == UNTAGGED then big_bytes 2 h.dl_type
    else big_bytes 2 TAG_TYPE ++ (big_bytes 2 (h.dl_vlan_pcp * 8192 + h.dl_vlan) ++ big_bytes 2 h.dl_type)))

-- its count of bytes
abbrev pub ethernet_size : Header → ℕ
ethernet_size h = if h.dl_vlan == UNTAGGED then 14 else 18

-- the header of an IPv4 packet with so many bytes behind it, and this checksum
unfoldable pub ipv4_header : Header → ℕ → ℕ → List ℕ
ipv4_header h size sum =
    0x45 ∷ h.nw_tos
    ∷ (big_bytes 2 (20 + size)
    ++ (0 ∷ 0 ∷ 0 ∷ 0 ∷ 64 ∷ h.nw_proto
    ∷ (big_bytes 2 sum
    ++ (big_bytes 4 h.nw_src
    ++ big_bytes 4 h.nw_dst))))

-- what TCP and UDP add to their checksums: addresses, protocol and the segment's length
unfoldable pub pseudo_header : Header → ℕ → List ℕ
pseudo_header h size = big_bytes 4 h.nw_src ++ (big_bytes 4 h.nw_dst ++ (0 ∷ h.nw_proto ∷ big_bytes 2 size))

-- the header of a TCP segment that acknowledges, with this checksum
unfoldable pub tcp_header : Header → ℕ → List ℕ
tcp_header h sum =
    big_bytes 2 h.tp_src
    ++ (big_bytes 2 h.tp_dst
    ++ (0 ∷ 0 ∷ 0 ∷ 0 ∷ 0 ∷ 0 ∷ 0 ∷ 0 ∷ 0x50 ∷ 0x10 ∷ 0 ∷ 0
    ∷ (big_bytes 2 sum
    ++ (0 ∷ 0 ∷ []))))

-- the header of a datagram with a probe's payload, with this checksum
unfoldable pub udp_header : Header → ℕ → List ℕ
udp_header h sum = big_bytes 2 h.tp_src ++ (big_bytes 2 h.tp_dst ++ (0 ∷ 32 ∷ big_bytes 2 sum))

-- the header of an ICMP message, the type and the code in the places of the ports, with this checksum
unfoldable pub icmp_header : Header → ℕ → List ℕ
icmp_header h sum = big_bytes 1 h.tp_src ++ (big_bytes 1 h.tp_dst ++ (big_bytes 2 sum ++ (0 ∷ 0 ∷ 0 ∷ 0 ∷ [])))

abbrev pub tcp_sum : Header → Nonce → ℕ
tcp_sum h n = checksum (pseudo_header h 44 ++ (tcp_header h 0 ++ payload n))

abbrev pub udp_sum : Header → Nonce → ℕ
udp_sum h n = not_zero (checksum (pseudo_header h 32 ++ (udp_header h 0 ++ payload n)))

abbrev pub icmp_sum : Header → Nonce → ℕ
icmp_sum h n = checksum (icmp_header h 0 ++ payload n)

-- what stands between the header of IPv4 and the payload
unfoldable pub transport_header : Header → Nonce → List ℕ
transport_header h n =
    if h.nw_proto == TCP_PROTOCOL then tcp_header h (tcp_sum h n)
    else (if h.nw_proto == UDP_PROTOCOL then udp_header h (udp_sum h n)
    else (if h.nw_proto == ICMP_PROTOCOL then icmp_header h (icmp_sum h n)
    else []))

-- its count of bytes
abbrev pub transport_size : Header → ℕ
transport_size h = if h.nw_proto == TCP_PROTOCOL then 20 else (if h.nw_proto == UDP_PROTOCOL then 8 else (if h.nw_proto == ICMP_PROTOCOL then 8 else 0))

-- the headers of IPv4 and of what it carries
unfoldable pub network_headers : Header → Nonce → List ℕ
network_headers h n =
    let size = transport_size h + 24 in
    ipv4_header h size (checksum (ipv4_header h size 0)) ++ transport_header h n

-- a packet of ARP from and to these addresses of IPv4, with the protocol as its operation; its addresses of Ethernet are 0
unfoldable pub arp_packet : Header → List ℕ
arp_packet h =
    big_bytes 2 1
    ++ (big_bytes 2 IPV4_TYPE
    ++ (6 ∷ 4
    ∷ (big_bytes 2 h.nw_proto
    ++ (0 ∷ 0 ∷ 0 ∷ 0 ∷ 0 ∷ 0
    ∷ (big_bytes 4 h.nw_src
    ++ (0 ∷ 0 ∷ 0 ∷ 0 ∷ 0 ∷ 0
    ∷ big_bytes 4 h.nw_dst))))))

-- what follows the header of Ethernet
unfoldable pub body : Header → Nonce → List ℕ
body h n =
    if h.dl_type == IPV4_TYPE then network_headers h n ++ payload n
    else (if h.dl_type == ARP_TYPE then arp_packet h ++ payload n
    else payload n)

-- zeros up to 64 bytes
abbrev pub padding : ℕ → List ℕ
padding size = replicate (64 - size) 0

-- the whole frame
unfoldable pub rendered : Header → Nonce → List ℕ
rendered h n = let frame = ethernet_header h ++ body h n in frame ++ padding (length frame)
