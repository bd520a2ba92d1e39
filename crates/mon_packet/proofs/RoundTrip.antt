-- A frame that is rendered is read again.
use Rattle.std.proofs.Common.{◌≡◌, ◌≢◌, ℕ, ◌%◌, ◌<◌, Bool, true, false, List, [], ◌++◌, length, Option, Some, sym, ap, ◌∙◌, append_assoc, arith}
use Rattle.std.specs.Prelude.{◌==◌, ◌&&◌, nat_lt}
use Rattle.std.proofs.lemmas.Bool.{eq-eqb, eqb-true, ltb-true}
use Rattle.std.proofs.lemmas.Bool.Decides.{nat_tests}
use Rattle.std.proofs.lemmas.List.{drop_at}
use Rattle.mon_header.specs.declared.class.Class.{Class}
use Rattle.mon_header.specs.declared.class.Class.TheVariants.{Tcp, Udp, Icmp, OtherIpv4, Plain, Arp}
use Rattle.mon_header.specs.declared.header.Header.{Header}
use Rattle.mon_header.specs.Matching.{InRange}
use Rattle.mon_header.specs.Classes.{has_form, has_no_network_fields, is_plain_type}
use Rattle.mon_header.proofs.Twelve.{first, second}
use Rattle.mon_packet.specs.declared.nonce.Nonce.{Nonce}
use Rattle.mon_packet.specs.Sums.{checksum}
use Rattle.mon_packet.specs.Frames.{payload, ethernet_header, ethernet_size, ipv4_header, tcp_header, udp_header, icmp_header, tcp_sum, udp_sum, icmp_sum, transport_header, network_headers, arp_packet, body, padding, rendered}
use Rattle.mon_packet.specs.Reading.{is_type, nonce_of, transport_of, plain_header, ethernet_of, packet_of, arp_of, with_ethernet, Read, parsed}
use Rattle.mon_packet.specs.Laws.{ReadsBack}
use Rattle.mon_packet.proofs.Choosing.{if-true, if-false}
use Rattle.mon_header.proofs.Parting.{IsOf}
use Rattle.mon_packet.proofs.Fitting.{class-parts, Tagged, tag-fits, untagged-pcp}
use Rattle.mon_packet.proofs.Links.{link, link-read}
use Rattle.mon_packet.proofs.Packets.{IsNonce, nonce-read, packet-read, tcp-read, udp-read, icmp-read}
use Rattle.mon_packet.proofs.Arp.{arp-form, arp-read}

-- the header without its port
abbrev portless : Header → Header
portless h = record h { in_port = 0 }

-- the headers of a packet, by protocol
pub tcp-headers : (h : Header) (n : Nonce) → h.nw_proto ≡ 6
    → network_headers h n ≡ ipv4_header h 44 (checksum (ipv4_header h 44 0)) ++ tcp_header h (tcp_sum h n)
unfolding network_headers transport_header
tcp-headers h n e = simp e

pub udp-headers : (h : Header) (n : Nonce) → h.nw_proto ≡ 17
    → network_headers h n ≡ ipv4_header h 32 (checksum (ipv4_header h 32 0)) ++ udp_header h (udp_sum h n)
unfolding network_headers transport_header
udp-headers h n e = simp e

pub icmp-headers : (h : Header) (n : Nonce) → h.nw_proto ≡ 1
    → network_headers h n ≡ ipv4_header h 32 (checksum (ipv4_header h 32 0)) ++ icmp_header h (icmp_sum h n)
unfolding network_headers transport_header
icmp-headers h n e = simp e

pub other-headers : (h : Header) (n : Nonce) → (h.nw_proto == 6) ≡ false → (h.nw_proto == 17) ≡ false → (h.nw_proto == 1) ≡ false
    → network_headers h n ≡ ipv4_header h 24 (checksum (ipv4_header h 24 0)) ++ []
unfolding network_headers transport_header
other-headers h n a b c = simp (a, b, c)

-- a header in a class is read from the front of its frame
pub front-read : (c : Class) (h : Header) (rest : List ℕ) → IsOf c h → is_type h.dl_type ≡ true
    → (ethernet_of (ethernet_header h ++ rest) ≡ Some (link h)) × (length (ethernet_header h) ≡ ethernet_size h)
front-read c h rest p t =
    link-read h rest p.range t (untagged-pcp h p.tag)
    (λ (v : h.dl_vlan ≢ 0xffff). let f : Tagged h = tag-fits h p.tag v in (f.vlan, f.pcp))

-- a frame is its headers, its payload and zeros
pub laid-out : (h : Header) (n : Nonce) → (pad : List ℕ) × (rendered h n ≡ ethernet_header h ++ (body h n ++ pad))
unfolding rendered
laid-out h n =
    let pad : List ℕ = padding (length (ethernet_header h ++ body h n)) in
    (pad, append_assoc (ethernet_header h) (body h n) (pad))

read-packet : (c : Class) (h : Header) (rest : List ℕ) → IsOf c h → h.dl_type ≡ 0x0800
    → parsed (ethernet_header h ++ rest) ≡ packet_of (link h) rest
read-packet c h rest p e =
    let f = front-read c h rest p (ap is_type e) in
    ap (with_ethernet (ethernet_header h ++ rest)) f.0
    ∙ if-true _ _ _ (eq-eqb _ _ e)
    ∙ ap (packet_of (link h)) (drop_at (ethernet_header h) rest (ethernet_size h) f.1)

read-arp : (c : Class) (h : Header) (rest : List ℕ) → IsOf c h → h.dl_type ≡ 0x0806
    → parsed (ethernet_header h ++ rest) ≡ arp_of (link h) rest
read-arp c h rest p e =
    let f = front-read c h rest p (ap is_type e) in
    ap (with_ethernet (ethernet_header h ++ rest)) f.0
    ∙ if-false _ _ _ (ap (λ (t : ℕ). t == 0x0800) e)
    ∙ if-true _ _ _ (eq-eqb _ _ e)
    ∙ ap (arp_of (link h)) (drop_at (ethernet_header h) rest (ethernet_size h) f.1)

read-plain : (c : Class) (h : Header) (rest : List ℕ) → IsOf c h → is_type h.dl_type ≡ true
    → (h.dl_type == 0x0800) ≡ false → (h.dl_type == 0x0806) ≡ false
    → parsed (ethernet_header h ++ rest) ≡ Some (plain_header (link h), nonce_of rest)
read-plain c h rest p t e g =
    let f = front-read c h rest p t in
    ap (with_ethernet (ethernet_header h ++ rest)) f.0
    ∙ if-false _ _ _ e
    ∙ if-false _ _ _ g
    ∙ ap (λ (r : List ℕ). Some (plain_header (link h), nonce_of r)) (drop_at (ethernet_header h) rest (ethernet_size h) f.1)

-- what follows the header of Ethernet, by type
pub packet-body : (h : Header) (n : Nonce) (ip next pad : List ℕ) → h.dl_type ≡ 0x0800 → network_headers h n ≡ ip ++ next
    → body h n ++ pad ≡ ip ++ (next ++ (payload n ++ pad))
unfolding body
packet-body h n ip next pad e heads =
    ap (λ (b : List ℕ). b ++ pad) (if-true _ _ _ (eq-eqb _ _ e) ∙ ap (λ (b : List ℕ). b ++ payload n) heads)
    ∙ append_assoc (ip ++ next) (payload n) (pad)
    ∙ append_assoc (ip) (next) (payload n ++ pad)

arp-body : (h : Header) (n : Nonce) (pad : List ℕ) → h.dl_type ≡ 0x0806 → body h n ++ pad ≡ arp_packet h ++ (payload n ++ pad)
unfolding body
arp-body h n pad e =
    ap (λ (b : List ℕ). b ++ pad) (if-false _ _ _ (ap (λ (t : ℕ). t == 0x0800) e) ∙ if-true _ _ _ (eq-eqb _ _ e))
    ∙ append_assoc (arp_packet h) (payload n) (pad)

plain-body : (h : Header) (n : Nonce) (pad : List ℕ) → (h.dl_type == 0x0800) ≡ false → (h.dl_type == 0x0806) ≡ false
    → body h n ++ pad ≡ payload n ++ pad
unfolding body
plain-body h n pad e g = ap (λ (b : List ℕ). b ++ pad) (if-false _ _ _ e ∙ if-false _ _ _ g)

-- a frame of IPv4, once its packet is read
ip-back : (c : Class) (h : Header) (n : Nonce) (ip next : List ℕ) (r : Read) → IsOf c h → h.dl_type ≡ 0x0800
    → network_headers h n ≡ ip ++ next → ((pad : List ℕ) → packet_of (link h) (ip ++ (next ++ (payload n ++ pad))) ≡ r)
    → parsed (rendered h n) ≡ r
ip-back c h n ip next r p e heads packet =
    let l = laid-out h n in
    ap parsed l.1
    ∙ read-packet c h (body h n ++ l.0) p e
    ∙ ap (packet_of (link h)) (packet-body h n ip next l.0 e heads)
    ∙ packet l.0

tos-low : (c : Class) (h : Header) → IsOf c h → h.nw_tos % 4 ≡ 0
tos-low c h p = eqb-true _ _ p.tos

tcp-packet : (h : Header) (n : Nonce) (sum check : ℕ) (pad : List ℕ) → InRange h → h.nw_tos % 4 ≡ 0 → IsNonce n → h.nw_proto ≡ 6
    → packet_of (link h) (ipv4_header h 44 sum ++ (tcp_header h check ++ (payload n ++ pad))) ≡ Some (portless h, Some n)
unfolding ipv4_header tcp_header payload
tcp-packet h n sum check pad r low k e =
    let rest : List ℕ = tcp_header h check ++ (payload n ++ pad) in
    packet-read (link h) (record { tp_src = h.tp_src; tp_dst = h.tp_dst; end = 40 }) h n 44 sum rest r low (omega arith) (omega arith)
    (ap (λ (q : ℕ). transport_of q (ipv4_header h 44 sum ++ rest)) e ∙ tcp-read h sum check (payload n ++ pad) r)
    (nonce-read n [] k)

udp-packet : (h : Header) (n : Nonce) (sum check : ℕ) (pad : List ℕ) → InRange h → h.nw_tos % 4 ≡ 0 → IsNonce n → h.nw_proto ≡ 17
    → packet_of (link h) (ipv4_header h 32 sum ++ (udp_header h check ++ (payload n ++ pad))) ≡ Some (portless h, Some n)
unfolding ipv4_header udp_header payload
udp-packet h n sum check pad r low k e =
    let rest : List ℕ = udp_header h check ++ (payload n ++ pad) in
    packet-read (link h) (record { tp_src = h.tp_src; tp_dst = h.tp_dst; end = 28 }) h n 32 sum rest r low (omega arith) (omega arith)
    (ap (λ (q : ℕ). transport_of q (ipv4_header h 32 sum ++ rest)) e ∙ udp-read h sum check (payload n ++ pad) r)
    (nonce-read n [] k)

icmp-packet : (h : Header) (n : Nonce) (sum check : ℕ) (pad : List ℕ) → InRange h → h.nw_tos % 4 ≡ 0 → IsNonce n → h.nw_proto ≡ 1
    → h.tp_src < 256 → h.tp_dst < 256
    → packet_of (link h) (ipv4_header h 32 sum ++ (icmp_header h check ++ (payload n ++ pad))) ≡ Some (portless h, Some n)
unfolding ipv4_header icmp_header payload
icmp-packet h n sum check pad r low k e ps pd =
    let rest : List ℕ = icmp_header h check ++ (payload n ++ pad) in
    packet-read (link h) (record { tp_src = h.tp_src; tp_dst = h.tp_dst; end = 28 }) h n 32 sum rest r low (omega arith) (omega arith)
    (ap (λ (q : ℕ). transport_of q (ipv4_header h 32 sum ++ rest)) e ∙ icmp-read h sum check (payload n ++ pad) ps pd)
    (nonce-read n [] k)

other-transport : (protocol : ℕ) (packet : List ℕ) → (protocol == 6) ≡ false → (protocol == 17) ≡ false → (protocol == 1) ≡ false
    → transport_of protocol packet ≡ Some (record { tp_src = 0; tp_dst = 0; end = 20 })
unfolding transport_of
other-transport protocol packet a b c = simp (a, b, c)

other-packet : (h : Header) (n : Nonce) (sum : ℕ) (pad : List ℕ) → InRange h → h.nw_tos % 4 ≡ 0 → IsNonce n
    → (h.nw_proto == 6) ≡ false → (h.nw_proto == 17) ≡ false → (h.nw_proto == 1) ≡ false → h.tp_src ≡ 0 → h.tp_dst ≡ 0
    → packet_of (link h) (ipv4_header h 24 sum ++ ([] ++ (payload n ++ pad))) ≡ Some (portless h, Some n)
unfolding ipv4_header payload
other-packet h n sum pad r low k a b c es ed =
    packet-read (link h) (record { tp_src = 0; tp_dst = 0; end = 20 }) h n 24 sum (payload n ++ pad) r low (omega arith) (omega arith)
    (other-transport h.nw_proto (ipv4_header h 24 sum ++ (payload n ++ pad)) a b c)
    (nonce-read n [] k)
    ∙ ap (λ (x : ℕ). Some (record (portless h) { tp_src = x; tp_dst = 0 }, Some n)) (sym es)
    ∙ ap (λ (x : ℕ). Some (record (portless h) { tp_dst = x }, Some n)) (sym ed)

pub record OtherForm (h : Header) : Type 0 where
  pub type : h.dl_type ≡ 0x0800
  pub icmp : (h.nw_proto == 1) ≡ false
  pub tcp : (h.nw_proto == 6) ≡ false
  pub udp : (h.nw_proto == 17) ≡ false
  pub src : h.tp_src ≡ 0
  pub dst : h.tp_dst ≡ 0

pub other-form : (h : Header) → has_form OtherIpv4 h ≡ true → OtherForm h
unfolding has_form
other-form h e = record {
  type = grind (arith, nat_tests);
  icmp = grind (arith, nat_tests);
  tcp = grind (arith, nat_tests);
  udp = grind (arith, nat_tests);
  src = grind (arith, nat_tests);
  dst = grind (arith, nat_tests);
}

pub record PlainForm (h : Header) : Type 0 where
  pub type : is_type h.dl_type ≡ true
  pub ip : (h.dl_type == 0x0800) ≡ false
  pub arp : (h.dl_type == 0x0806) ≡ false
  pub tos : h.nw_tos ≡ 0
  pub proto : h.nw_proto ≡ 0
  pub nw_src : h.nw_src ≡ 0
  pub nw_dst : h.nw_dst ≡ 0
  pub tp_src : h.tp_src ≡ 0
  pub tp_dst : h.tp_dst ≡ 0

pub plain-form : (h : Header) → has_form Plain h ≡ true → PlainForm h
unfolding has_form is_plain_type has_no_network_fields
plain-form h e = record {
  type = grind (arith, nat_tests);
  ip = grind (arith, nat_tests);
  arp = grind (arith, nat_tests);
  tos = grind (arith, nat_tests);
  proto = grind (arith, nat_tests);
  nw_src = grind (arith, nat_tests);
  nw_dst = grind (arith, nat_tests);
  tp_src = grind (arith, nat_tests);
  tp_dst = grind (arith, nat_tests);
}

plain-shown : (h : Header) → PlainForm h → plain_header (link h) ≡ portless h
unfolding plain_header
plain-shown h f = simp (f.tos, f.proto, f.nw_src, f.nw_dst, f.tp_src, f.tp_dst)

pub record IpForm (h : Header) (protocol : ℕ) : Type 0 where
  pub type : h.dl_type ≡ 0x0800
  pub proto : h.nw_proto ≡ protocol

pub ip-form : (h : Header) (protocol : ℕ) (more : Bool) → ((h.dl_type == 0x0800) && ((h.nw_proto == protocol) && more)) ≡ true → IpForm h protocol
ip-form h protocol more e =
    let rest = second (h.dl_type == 0x0800) _ e in
    record { type = eqb-true _ _ (first _ _ e); proto = eqb-true _ _ (first _ _ rest) }

pub two-form : (h : Header) (protocol : ℕ) → ((h.dl_type == 0x0800) && (h.nw_proto == protocol)) ≡ true → IpForm h protocol
two-form h protocol e = record { type = eqb-true _ _ (first _ _ e); proto = eqb-true _ _ (second (h.dl_type == 0x0800) _ e) }

class-back : (c : Class) (h : Header) (n : Nonce) → IsOf c h → IsNonce n → parsed (rendered h n) ≡ Some (portless h, Some n)
unfolding has_form
class-back Tcp h n p k =
    let f = two-form h 6 p.form in
    ip-back Tcp h n (ipv4_header h 44 (checksum (ipv4_header h 44 0))) (tcp_header h (tcp_sum h n)) (Some (portless h, Some n)) p f.type
    (tcp-headers h n f.proto)
    (λ (pad : List ℕ). tcp-packet h n (checksum (ipv4_header h 44 0)) (tcp_sum h n) pad p.range (tos-low Tcp h p) k f.proto)
class-back Udp h n p k =
    let f = two-form h 17 p.form in
    ip-back Udp h n (ipv4_header h 32 (checksum (ipv4_header h 32 0))) (udp_header h (udp_sum h n)) (Some (portless h, Some n)) p f.type
    (udp-headers h n f.proto)
    (λ (pad : List ℕ). udp-packet h n (checksum (ipv4_header h 32 0)) (udp_sum h n) pad p.range (tos-low Udp h p) k f.proto)
class-back Icmp h n p k =
    let f = ip-form h 1 _ p.form in
    let ports = second (h.nw_proto == 1) _ (second (h.dl_type == 0x0800) _ p.form) in
    ip-back Icmp h n (ipv4_header h 32 (checksum (ipv4_header h 32 0))) (icmp_header h (icmp_sum h n)) (Some (portless h, Some n)) p f.type
    (icmp-headers h n f.proto)
    (λ (pad : List ℕ). icmp-packet h n (checksum (ipv4_header h 32 0)) (icmp_sum h n) pad p.range (tos-low Icmp h p) k f.proto
    (ltb-true _ _ (first _ _ ports)) (ltb-true _ _ (second (nat_lt h.tp_src 256) _ ports)))
class-back OtherIpv4 h n p k =
    let f = other-form h p.form in
    ip-back OtherIpv4 h n (ipv4_header h 24 (checksum (ipv4_header h 24 0))) [] (Some (portless h, Some n)) p f.type
    (other-headers h n f.tcp f.udp f.icmp)
    (λ (pad : List ℕ). other-packet h n (checksum (ipv4_header h 24 0)) pad p.range (tos-low OtherIpv4 h p) k f.tcp f.udp f.icmp f.src f.dst)
class-back Plain h n p k =
    let f = plain-form h p.form in
    let l = laid-out h n in
    ap parsed l.1
    ∙ read-plain Plain h (body h n ++ l.0) p f.type f.ip f.arp
    ∙ ap (λ (rest : List ℕ). Some (plain_header (link h), nonce_of rest)) (plain-body h n l.0 f.ip f.arp)
    ∙ ap (λ (m : Option Nonce). Some (plain_header (link h), m)) (nonce-read n l.0 k)
    ∙ ap (λ (g : Header). Some (g, Some n)) (plain-shown h f)
class-back Arp h n p k =
    let f = arp-form h p.form in
    let l = laid-out h n in
    ap parsed l.1
    ∙ read-arp Arp h (body h n ++ l.0) p f.type
    ∙ ap (arp_of (link h)) (arp-body h n l.0 f.type)
    ∙ arp-read h n l.0 p.range f k

pub frame-read : (h : Header) (n : Nonce) → ReadsBack h n
frame-read h n e key serial =
    let c = class-parts h e in
    class-back c.0 h n c.1 (record { key = key; serial = serial })
