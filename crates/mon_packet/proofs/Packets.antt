-- Packets of IPv4 that are written are read again.
use Rattle.std.proofs.Common.{◌≡◌, ℕ, ◌+◌, ◌*◌, ◌-◌, ◌/◌, ◌%◌, ◌^◌, ◌<◌, ◌≤◌, true, List, ◌++◌, length, drop, take, Option, Some, None, refl, ap, ◌∙◌, arith}
use Rattle.std.specs.Prelude.{◌==◌, ◌&&◌, nat_le, slice_index}
use Rattle.std.proofs.lemmas.Bool.{le-leb, eq-eqb}
use Rattle.byteorder.specs.Endian.{big_number, big_bytes}
use Rattle.byteorder.specs.Numbers.{big_number-reads_back}
use Rattle.mon_header.specs.declared.header.Header.{Header}
use Rattle.mon_header.specs.Matching.{InRange}
use Rattle.mon_header.proofs.Twelve.{both}
use Rattle.mon_packet.specs.declared.nonce.Nonce.{Nonce}
use Rattle.mon_packet.specs.declared.ethernet.Ethernet.{Ethernet}
use Rattle.mon_packet.specs.declared.transport.Transport.{Transport}
use Rattle.mon_packet.specs.Frames.{payload, ipv4_header, tcp_header, udp_header, icmp_header}
use Rattle.mon_fields.specs.Fields.{number_at}
use Rattle.mon_packet.specs.Reading.{total_of, nonce_of, is_ipv4, tcp_of, udp_of, icmp_of, transport_of, plain_header, ipv4_fields, with_transport, packet_of}
use Rattle.mon_packet.proofs.Choosing.{if-true}

pub record IsNonce (n : Nonce) : Type 0 where
  pub key : n.key < 2 ^ 64
  pub serial : n.serial < 2 ^ 64

pub nonce-read : (n : Nonce) (rest : List ℕ) → IsNonce n → nonce_of (payload n ++ rest) ≡ Some n
unfolding payload nonce_of
nonce-read n rest r =
    let m : big_number 8 (payload n ++ rest) ≡ 0x4d4f4e4f434c4531 =
    big_number-reads_back 8 0x4d4f4e4f434c4531 (drop 8 (payload n ++ rest)) (omega arith) in
    let k : big_number 8 (drop 8 (payload n ++ rest)) ≡ n.key = big_number-reads_back 8 n.key (drop 16 (payload n ++ rest)) r.key in
    let s : big_number 8 (drop 16 (payload n ++ rest)) ≡ n.serial = big_number-reads_back 8 n.serial rest r.serial in
    if-true _ _ _ (both _ _ (le-leb 24 (length (payload n ++ rest)) (omega arith)) (eq-eqb _ _ m)) ∙ simp (k, s)

-- what a packet's header says, whatever stands behind it
pub total-read : (h : Header) (size sum : ℕ) (rest : List ℕ) → size < 1000 → total_of (ipv4_header h size sum ++ rest) ≡ 20 + size
unfolding ipv4_header
total-read h size sum rest s = big_number-reads_back 2 (20 + size) (drop 4 (ipv4_header h size sum ++ rest)) (omega arith)

src-read : (h : Header) (size sum : ℕ) (rest : List ℕ) → h.nw_src < 2 ^ 32 → big_number 4 (drop 12 (ipv4_header h size sum ++ rest)) ≡ h.nw_src
unfolding ipv4_header
src-read h size sum rest r = big_number-reads_back 4 h.nw_src (big_bytes 4 h.nw_dst ++ rest) r

dst-read : (h : Header) (size sum : ℕ) (rest : List ℕ) → h.nw_dst < 2 ^ 32 → big_number 4 (drop 16 (ipv4_header h size sum ++ rest)) ≡ h.nw_dst
unfolding ipv4_header
dst-read h size sum rest r = big_number-reads_back 4 h.nw_dst rest r

header-long : (h : Header) (size sum : ℕ) (rest : List ℕ) → length (ipv4_header h size sum ++ rest) ≡ 20 + length rest
unfolding ipv4_header
header-long h size sum rest = omega arith

is-read : (h : Header) (size sum : ℕ) (rest : List ℕ) → size < 1000 → size ≤ length rest → is_ipv4 (ipv4_header h size sum ++ rest) ≡ true
unfolding is_ipv4 ipv4_header
is-read h size sum rest s l =
    let t : total_of (ipv4_header h size sum ++ rest) ≡ 20 + size = total-read h size sum rest s in
    let long : length (ipv4_header h size sum ++ rest) ≡ 20 + length rest = header-long h size sum rest in
    both _ _ (le-leb 20 (length (ipv4_header h size sum ++ rest)) (omega arith))
    (both _ _ refl
    (both _ _ (le-leb 20 (total_of (ipv4_header h size sum ++ rest)) (omega arith))
    (both _ _ (le-leb (total_of (ipv4_header h size sum ++ rest)) (length (ipv4_header h size sum ++ rest)) (omega arith)) refl)))

tos-read : (h : Header) (size sum : ℕ) (rest : List ℕ) → slice_index (ipv4_header h size sum ++ rest) 1 ≡ h.nw_tos
unfolding ipv4_header
tos-read h size sum rest = refl

pub proto-read : (h : Header) (size sum : ℕ) (rest : List ℕ) → slice_index (ipv4_header h size sum ++ rest) 9 ≡ h.nw_proto
unfolding ipv4_header
proto-read h size sum rest = refl

-- the header that a packet and its frame show
abbrev pub shown : Ethernet → Header → Transport → Header
shown e h t = record h {
  in_port = 0;
  dl_src = e.dl_src;
  dl_dst = e.dl_dst;
  dl_vlan = e.dl_vlan;
  dl_vlan_pcp = e.dl_vlan_pcp;
  dl_type = e.dl_type;
  tp_src = t.tp_src;
  tp_dst = t.tp_dst;
}

fields-read : (e : Ethernet) (t : Transport) (h : Header) (size sum : ℕ) (rest : List ℕ) → InRange h → h.nw_tos % 4 ≡ 0
    → ipv4_fields e t (ipv4_header h size sum ++ rest) ≡ shown e h t
unfolding ipv4_fields plain_header
fields-read e t h size sum rest r low =
    let tos : slice_index (ipv4_header h size sum ++ rest) 1 / 4 * 4 ≡ h.nw_tos = rw (tos-read h size sum rest) (omega arith) in
    simp (tos, proto-read h size sum rest, src-read h size sum rest r.nw_src, dst-read h size sum rest r.nw_dst)

-- a packet whose transport header is read, and whose payload has a nonce
pub packet-read : (e : Ethernet) (t : Transport) (h : Header) (n : Nonce) (size sum : ℕ) (rest : List ℕ)
    → InRange h → h.nw_tos % 4 ≡ 0 → size < 1000 → size ≤ length rest
    → transport_of h.nw_proto (ipv4_header h size sum ++ rest) ≡ Some t
    → nonce_of (drop t.end (take (20 + size) (ipv4_header h size sum ++ rest))) ≡ Some n
    → packet_of e (ipv4_header h size sum ++ rest) ≡ Some (shown e h t, Some n)
packet-read e t h n size sum rest r low s l et en =
    let packet : List ℕ = ipv4_header h size sum ++ rest in
    let proto : transport_of (slice_index packet 9) packet ≡ Some t = ap (λ (p : ℕ). transport_of p packet) (proto-read h size sum rest) ∙ et in
    if-true _ _ _ (is-read h size sum rest s l)
    ∙ ap (with_transport e packet) proto
    ∙ ap (λ (k : Header). Some (k, nonce_of (drop t.end (take (total_of packet) packet)))) (fields-read e t h size sum rest r low)
    ∙ ap (λ (k : ℕ). Some (shown e h t, nonce_of (drop t.end (take k packet)))) (total-read h size sum rest s)
    ∙ ap (λ (m : Option Nonce). Some (shown e h t, m)) en

pub tcp-read : (h : Header) (sum check : ℕ) (rest : List ℕ) → InRange h
    → transport_of 6 (ipv4_header h 44 sum ++ (tcp_header h check ++ rest)) ≡ Some (record { tp_src = h.tp_src; tp_dst = h.tp_dst; end = 40 })
unfolding transport_of tcp_of ipv4_header tcp_header
tcp-read h sum check rest r =
    let packet : List ℕ = ipv4_header h 44 sum ++ (tcp_header h check ++ rest) in
    let t : total_of packet ≡ 64 = total-read h 44 sum (tcp_header h check ++ rest) (omega arith) in
    let s : number_at 2 20 packet ≡ h.tp_src = big_number-reads_back 2 h.tp_src (drop 22 packet) r.tp_src in
    let d : number_at 2 22 packet ≡ h.tp_dst = big_number-reads_back 2 h.tp_dst (drop 24 packet) r.tp_dst in
    let found : ℕ → ℕ → Option Transport = λ x y. Some (record { tp_src = x; tp_dst = y; end = 40 }) in
    if-true (nat_le 40 (total_of packet) && (slice_index packet 32 / 16 == 5)) (found (number_at 2 20 packet) (number_at 2 22 packet)) None
    (both (nat_le 40 (total_of packet)) (slice_index packet 32 / 16 == 5) (le-leb 40 (total_of packet) (omega arith)) refl)
    ∙ ap (λ (x : ℕ). found x (number_at 2 22 packet)) s
    ∙ ap (found h.tp_src) d

pub udp-read : (h : Header) (sum check : ℕ) (rest : List ℕ) → InRange h
    → transport_of 17 (ipv4_header h 32 sum ++ (udp_header h check ++ rest)) ≡ Some (record { tp_src = h.tp_src; tp_dst = h.tp_dst; end = 28 })
unfolding transport_of udp_of ipv4_header udp_header
udp-read h sum check rest r =
    let packet : List ℕ = ipv4_header h 32 sum ++ (udp_header h check ++ rest) in
    let t : total_of packet ≡ 52 = total-read h 32 sum (udp_header h check ++ rest) (omega arith) in
    let l : number_at 2 24 packet ≡ 32 = refl in
    let s : number_at 2 20 packet ≡ h.tp_src = big_number-reads_back 2 h.tp_src (drop 22 packet) r.tp_src in
    let d : number_at 2 22 packet ≡ h.tp_dst = big_number-reads_back 2 h.tp_dst (drop 24 packet) r.tp_dst in
    let found : ℕ → ℕ → Option Transport = λ x y. Some (record { tp_src = x; tp_dst = y; end = 28 }) in
    if-true (nat_le 28 (total_of packet) && (number_at 2 24 packet == total_of packet - 20)) (found (number_at 2 20 packet) (number_at 2 22 packet)) None
    (both (nat_le 28 (total_of packet)) (number_at 2 24 packet == total_of packet - 20) (le-leb 28 (total_of packet) (omega arith))
    (eq-eqb (number_at 2 24 packet) (total_of packet - 20) (omega arith)))
    ∙ ap (λ (x : ℕ). found x (number_at 2 22 packet)) s
    ∙ ap (found h.tp_src) d

pub icmp-read : (h : Header) (sum check : ℕ) (rest : List ℕ) → h.tp_src < 256 → h.tp_dst < 256
    → transport_of 1 (ipv4_header h 32 sum ++ (icmp_header h check ++ rest)) ≡ Some (record { tp_src = h.tp_src; tp_dst = h.tp_dst; end = 28 })
unfolding transport_of icmp_of ipv4_header icmp_header
icmp-read h sum check rest ps pd =
    let packet : List ℕ = ipv4_header h 32 sum ++ (icmp_header h check ++ rest) in
    let t : total_of packet ≡ 52 = total-read h 32 sum (icmp_header h check ++ rest) (omega arith) in
    let s : slice_index packet 20 ≡ h.tp_src = omega arith in
    let d : slice_index packet 21 ≡ h.tp_dst = omega arith in
    let found : ℕ → ℕ → Option Transport = λ x y. Some (record { tp_src = x; tp_dst = y; end = 28 }) in
    if-true (nat_le 28 (total_of packet)) (found (slice_index packet 20) (slice_index packet 21)) None
    (le-leb 28 (total_of packet) (omega arith))
    ∙ ap (λ (x : ℕ). found x (slice_index packet 21)) s
    ∙ ap (found h.tp_src) d
