-- A probe's frame is short.
use Rattle.std.specs.Prelude.{◌≡◌, ℕ, ◌+◌, ◌*◌, ◌-◌, ◌≤◌, Bool, true, false, ◌==◌, if◌then◌else◌, List, [], ◌++◌, length}
use Rattle.std.proofs.Common.{arith}
use Rattle.std.proofs.lemmas.List.{length-append, length-replicate}
use Rattle.byteorder.specs.Endian.{big_bytes}
use Rattle.mon_header.specs.declared.header.Header.{Header}
use Rattle.mon_header.specs.Assigned.{IPV4_TYPE, ARP_TYPE, TAG_TYPE, ICMP_PROTOCOL, TCP_PROTOCOL, UDP_PROTOCOL, UNTAGGED}
use Rattle.mon_packet.specs.declared.nonce.Nonce.{Nonce}
use Rattle.mon_packet.specs.Sums.{checksum}
use Rattle.mon_packet.specs.Frames.{payload, ethernet_header, ipv4_header, tcp_header, tcp_sum, udp_header, udp_sum, icmp_header, icmp_sum, transport_header, transport_size, network_headers, arp_packet, body, padding, rendered}

payload-long : (n : Nonce) → length (payload n) ≡ 24
unfolding payload
payload-long n = omega arith

either-short : (b : Bool) (xs ys : List ℕ) (k : ℕ) → length xs ≤ k → length ys ≤ k → length (if b then xs else ys) ≤ k
either-short true xs ys k x y = x
either-short false xs ys k x y = y

ethernet-short : (h : Header) → length (ethernet_header h) ≤ 18
unfolding ethernet_header
ethernet-short h =
    let kind : length (if h.dl_vlan == UNTAGGED then big_bytes 2 h.dl_type
    else big_bytes 2 TAG_TYPE ++ (big_bytes 2 (h.dl_vlan_pcp * 8192 + h.dl_vlan) ++ big_bytes 2 h.dl_type)) ≤ 6 =
    either-short (h.dl_vlan == UNTAGGED) (big_bytes 2 h.dl_type)
    (big_bytes 2 TAG_TYPE ++ (big_bytes 2 (h.dl_vlan_pcp * 8192 + h.dl_vlan) ++ big_bytes 2 h.dl_type)) 6 (omega arith) (omega arith) in
    omega arith

tcp-short : (h : Header) (sum : ℕ) → length (tcp_header h sum) ≤ 20
unfolding tcp_header
tcp-short h sum = omega arith

udp-short : (h : Header) (sum : ℕ) → length (udp_header h sum) ≤ 20
unfolding udp_header
udp-short h sum = omega arith

icmp-short : (h : Header) (sum : ℕ) → length (icmp_header h sum) ≤ 20
unfolding icmp_header
icmp-short h sum = omega arith

transport-short : (h : Header) (n : Nonce) → length (transport_header h n) ≤ 20
unfolding transport_header
transport-short h n =
    either-short (h.nw_proto == TCP_PROTOCOL) (tcp_header h (tcp_sum h n)) _ 20 (tcp-short h (tcp_sum h n))
    (either-short (h.nw_proto == UDP_PROTOCOL) (udp_header h (udp_sum h n)) _ 20 (udp-short h (udp_sum h n))
    (either-short (h.nw_proto == ICMP_PROTOCOL) (icmp_header h (icmp_sum h n)) [] 20 (icmp-short h (icmp_sum h n)) (omega arith)))

ipv4-long : (h : Header) (size sum : ℕ) (rest : List ℕ) → length (ipv4_header h size sum ++ rest) ≡ 20 + length rest
unfolding ipv4_header
ipv4-long h size sum rest = omega arith

network-short : (h : Header) (n : Nonce) → length (network_headers h n) ≤ 40
unfolding network_headers
network-short h n =
    let size : ℕ = transport_size h + 24 in
    let long = ipv4-long h size (checksum (ipv4_header h size 0)) (transport_header h n) in
    omega (arith, long, transport-short h n)

arp-long : (h : Header) → length (arp_packet h) ≡ 28
unfolding arp_packet
arp-long h = omega arith

body-short : (h : Header) (n : Nonce) → length (body h n) ≤ 64
unfolding body
body-short h n =
    either-short (h.dl_type == IPV4_TYPE) (network_headers h n ++ payload n) _ 64
    (omega (arith, length-append (network_headers h n) (payload n), network-short h n, payload-long n))
    (either-short (h.dl_type == ARP_TYPE) (arp_packet h ++ payload n) (payload n) 64
    (omega (arith, length-append (arp_packet h) (payload n), arp-long h, payload-long n))
    (omega (arith, payload-long n)))

padded-short : (frame : List ℕ) → length frame ≤ 82 → length (frame ++ padding (length frame)) ≤ 82
padded-short frame short =
    omega (arith, length-append frame (padding (length frame)), length-replicate {A = ℕ} (64 - length frame) 0, short)

rendered-short : (h : Header) (n : Nonce) → length (rendered h n) ≤ 82
unfolding rendered
rendered-short h n =
    padded-short (ethernet_header h ++ body h n) (omega (arith, length-append (ethernet_header h) (body h n), ethernet-short h, body-short h n))

-- a packet that was rendered fits a PACKET_OUT of the proxy
pub packet_short : (h : Header) (n : Nonce) (packet items : List ℕ) → packet ≡ items → items ≡ rendered h n → length packet ≤ 128
packet_short h n packet items e r = rw e (rw r (omega (arith, rendered-short h n)))
