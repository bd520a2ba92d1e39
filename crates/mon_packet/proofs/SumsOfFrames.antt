-- The checksums of a rendered frame are right.
use Rattle.std.proofs.Common.{◌≡◌, ◌≢◌, ℕ, ◌+◌, ◌-◌, ◌<◌, true, false, List, [], ◌∷◌, ◌++◌, drop, take, refl, sym, ap, subst, ◌∙◌, arith}
use Rattle.std.specs.Prelude.{◌==◌, slice_index}
use Rattle.std.proofs.lemmas.Bool.{eq-eqb}
use Rattle.std.proofs.lemmas.List.{drop_at}
use Rattle.byteorder.specs.Endian.{big_bytes}
use Rattle.byteorder.specs.Numbers.{big_number-reads_back}
use Rattle.mon_header.specs.declared.class.Class.{Class}
use Rattle.mon_header.specs.declared.class.Class.TheVariants.{Tcp, Udp, Icmp, OtherIpv4, Plain, Arp}
use Rattle.mon_header.specs.declared.header.Header.{Header}
use Rattle.mon_header.specs.Matching.{InRange}
use Rattle.mon_header.specs.Classes.{has_form}
use Rattle.mon_packet.specs.declared.nonce.Nonce.{Nonce}
use Rattle.mon_packet.specs.Sums.{sum_of, checksum}
use Rattle.mon_packet.specs.Frames.{payload, ethernet_header, ethernet_size, ipv4_header, pseudo_header, tcp_header, udp_header, icmp_header, tcp_sum, udp_sum, icmp_sum, network_headers, body}
use Rattle.mon_fields.specs.Fields.{number_at}
use Rattle.mon_packet.specs.Reading.{total_of, is_type}
use Rattle.mon_packet.specs.Laws.{HasRightSums, packet_in, IsChecked}
use Rattle.mon_header.proofs.Parting.{IsOf}
use Rattle.mon_packet.proofs.Fitting.{class-parts}
use Rattle.mon_packet.proofs.Packets.{proto-read, total-read}
use Rattle.mon_packet.proofs.Checking.{AreBytes, bytes-append, number-bytes, checked, checked-udp, not-zero, zero-small}
use Rattle.mon_packet.proofs.RoundTrip.{front-read, laid-out, packet-body, tcp-headers, udp-headers, icmp-headers, other-headers, OtherForm, other-form, ip-form, two-form, plain-form}
use Rattle.mon_packet.proofs.Arp.{arp-form}

-- the parts of a packet's header before and behind its checksum
abbrev ip_front : Header → ℕ → List ℕ
ip_front h size = 0x45 ∷ h.nw_tos ∷ (big_bytes 2 (20 + size) ++ (0 ∷ 0 ∷ 0 ∷ 0 ∷ 64 ∷ h.nw_proto ∷ []))

abbrev addresses : Header → List ℕ
addresses h = big_bytes 4 h.nw_src ++ big_bytes 4 h.nw_dst

addresses-bytes : (h : Header) → AreBytes (addresses h)
addresses-bytes h = bytes-append (big_bytes 4 h.nw_src) (big_bytes 4 h.nw_dst) (number-bytes 4 h.nw_src) (number-bytes 4 h.nw_dst)

ip-front-bytes : (h : Header) (size : ℕ) → InRange h → AreBytes (ip_front h size)
ip-front-bytes h size r = (
  omega arith,
  (
    r.nw_tos,
    bytes-append (big_bytes 2 (20 + size)) (0 ∷ 0 ∷ 0 ∷ 0 ∷ 64 ∷ h.nw_proto ∷ []) (number-bytes 2 (20 + size))
        (omega arith, (omega arith, (omega arith, (omega arith, (omega arith, (r.nw_proto, tt)))))),
  ),
)

header-sum : (h : Header) (size : ℕ) (rest : List ℕ) → InRange h
    → sum_of (take 20 (ipv4_header h size (checksum (ipv4_header h size 0)) ++ rest)) ≡ 65535
unfolding ipv4_header
header-sum h size rest r = checked (ip_front h size) (addresses h) refl (ip-front-bytes h size r) (addresses-bytes h)

payload-bytes : (n : Nonce) → AreBytes (payload n)
unfolding payload
payload-bytes n =
    bytes-append (big_bytes 8 0x4d4f4e4f434c4531) (big_bytes 8 n.key ++ big_bytes 8 n.serial) (number-bytes 8 0x4d4f4e4f434c4531)
    (bytes-append (big_bytes 8 n.key) (big_bytes 8 n.serial) (number-bytes 8 n.key) (number-bytes 8 n.serial))

-- what stands before the checksum of TCP
abbrev tcp_front : Header → List ℕ
tcp_front h = big_bytes 2 h.tp_src ++ (big_bytes 2 h.tp_dst ++ (0 ∷ 0 ∷ 0 ∷ 0 ∷ 0 ∷ 0 ∷ 0 ∷ 0 ∷ 0x50 ∷ 0x10 ∷ 0 ∷ 0 ∷ []))

tcp-front-bytes : (h : Header) → AreBytes (tcp_front h)
tcp-front-bytes h =
    let z : 0 < 256 = omega arith in
    bytes-append (big_bytes 2 h.tp_src) (big_bytes 2 h.tp_dst ++ (0 ∷ 0 ∷ 0 ∷ 0 ∷ 0 ∷ 0 ∷ 0 ∷ 0 ∷ 0x50 ∷ 0x10 ∷ 0 ∷ 0 ∷ [])) (number-bytes 2 h.tp_src)
    (bytes-append (big_bytes 2 h.tp_dst) (0 ∷ 0 ∷ 0 ∷ 0 ∷ 0 ∷ 0 ∷ 0 ∷ 0 ∷ 0x50 ∷ 0x10 ∷ 0 ∷ 0 ∷ []) (number-bytes 2 h.tp_dst)
    (z, (z, (z, (z, (z, (z, (z, (z, (omega arith, (omega arith, (z, (z, tt)))))))))))))

pseudo-bytes : (h : Header) (size : ℕ) → InRange h → AreBytes (pseudo_header h size)
unfolding pseudo_header
pseudo-bytes h size r =
    bytes-append (big_bytes 4 h.nw_src) (big_bytes 4 h.nw_dst ++ (0 ∷ h.nw_proto ∷ big_bytes 2 size)) (number-bytes 4 h.nw_src)
    (bytes-append (big_bytes 4 h.nw_dst) (0 ∷ h.nw_proto ∷ big_bytes 2 size) (number-bytes 4 h.nw_dst)
    (omega arith, (r.nw_proto, number-bytes 2 size)))

tcp-filled : (h : Header) (n : Nonce) → InRange h → sum_of (pseudo_header h 44 ++ (tcp_header h (tcp_sum h n) ++ payload n)) ≡ 65535
unfolding pseudo_header tcp_header
tcp-filled h n r =
    let z : 0 < 256 = omega arith in
    checked (pseudo_header h 44 ++ tcp_front h) (0 ∷ 0 ∷ payload n) refl
    (bytes-append (pseudo_header h 44) (tcp_front h) (pseudo-bytes h 44 r) (tcp-front-bytes h))
    (z, (z, payload-bytes n))

-- what stands before the checksum of UDP
abbrev udp_front : Header → List ℕ
udp_front h = big_bytes 2 h.tp_src ++ (big_bytes 2 h.tp_dst ++ (0 ∷ 32 ∷ []))

udp-front-bytes : (h : Header) → AreBytes (udp_front h)
udp-front-bytes h =
    bytes-append (big_bytes 2 h.tp_src) (big_bytes 2 h.tp_dst ++ (0 ∷ 32 ∷ [])) (number-bytes 2 h.tp_src)
    (bytes-append (big_bytes 2 h.tp_dst) (0 ∷ 32 ∷ []) (number-bytes 2 h.tp_dst) (omega arith, (omega arith, tt)))

udp-filled : (h : Header) (n : Nonce) → InRange h → sum_of (pseudo_header h 32 ++ (udp_header h (udp_sum h n) ++ payload n)) ≡ 65535
unfolding pseudo_header udp_header
udp-filled h n r =
    checked-udp (pseudo_header h 32 ++ udp_front h) (payload n) refl
    (bytes-append (pseudo_header h 32) (udp_front h) (pseudo-bytes h 32 r) (udp-front-bytes h))
    (payload-bytes n)

icmp-filled : (h : Header) (n : Nonce) → sum_of (icmp_header h (icmp_sum h n) ++ payload n) ≡ 65535
unfolding icmp_header
icmp-filled h n =
    let z : 0 < 256 = omega arith in
    checked (big_bytes 1 h.tp_src ++ big_bytes 1 h.tp_dst) (0 ∷ 0 ∷ 0 ∷ 0 ∷ payload n) refl
    (bytes-append (big_bytes 1 h.tp_src) (big_bytes 1 h.tp_dst) (number-bytes 1 h.tp_src) (number-bytes 1 h.tp_dst))
    (z, (z, (z, (z, payload-bytes n))))

-- what a receiver takes out of a packet with a total length of `total`
abbrev taken : List ℕ → ℕ → List ℕ
taken packet total = (drop 12 (take 20 packet) ++ (0 ∷ slice_index packet 9 ∷ big_bytes 2 (total - 20))) ++ drop 20 (take total packet)

tcp-taken : (h : Header) (n : Nonce) (sum check : ℕ) (pad : List ℕ)
    → taken (ipv4_header h 44 sum ++ (tcp_header h check ++ (payload n ++ pad))) 64 ≡ pseudo_header h 44 ++ (tcp_header h check ++ payload n)
unfolding ipv4_header tcp_header payload pseudo_header
tcp-taken h n sum check pad = refl

udp-taken : (h : Header) (n : Nonce) (sum check : ℕ) (pad : List ℕ)
    → taken (ipv4_header h 32 sum ++ (udp_header h check ++ (payload n ++ pad))) 52 ≡ pseudo_header h 32 ++ (udp_header h check ++ payload n)
unfolding ipv4_header udp_header payload pseudo_header
udp-taken h n sum check pad = refl

icmp-taken : (h : Header) (n : Nonce) (sum check : ℕ) (pad : List ℕ)
    → drop 20 (take 52 (ipv4_header h 32 sum ++ (icmp_header h check ++ (payload n ++ pad)))) ≡ icmp_header h check ++ payload n
unfolding ipv4_header icmp_header payload
icmp-taken h n sum check pad = refl

udp-sum-read : (h : Header) (n : Nonce) (sum check : ℕ) (pad : List ℕ) → check < 65536
    → number_at 2 26 (ipv4_header h 32 sum ++ (udp_header h check ++ (payload n ++ pad))) ≡ check
unfolding ipv4_header udp_header
udp-sum-read h n sum check pad small = big_number-reads_back 2 check (payload n ++ pad) small

-- a protocol is not another one
other-protocol : (packet : List ℕ) (p q : ℕ) {P : Type 0} → slice_index packet 9 ≡ p → p ≢ q → slice_index packet 9 ≡ q → P
other-protocol packet p q e n f = absurd (n (sym e ∙ f))

tcp-sums : (h : Header) (n : Nonce) (pad : List ℕ) → InRange h → h.nw_proto ≡ 6
    → HasRightSums (ipv4_header h 44 (checksum (ipv4_header h 44 0)) ++ (tcp_header h (tcp_sum h n) ++ (payload n ++ pad)))
tcp-sums h n pad r e =
    let sum : ℕ = checksum (ipv4_header h 44 0) in
    let rest : List ℕ = tcp_header h (tcp_sum h n) ++ (payload n ++ pad) in
    let packet : List ℕ = ipv4_header h 44 sum ++ rest in
    let p : slice_index packet 9 ≡ 6 = proto-read h 44 sum rest ∙ e in
    let t : total_of packet ≡ 64 = total-read h 44 sum rest (omega arith) in
    record {
      header = header-sum h 44 rest r;
      tcp = λ _. ap (λ (k : ℕ). sum_of (taken packet k)) t ∙ ap sum_of (tcp-taken h n sum (tcp_sum h n) pad) ∙ tcp-filled h n r;
      udp = other-protocol packet 6 17 p (λ (x : 6 ≡ 17). absurd (omega arith));
      udp_has_one = other-protocol packet 6 17 p (λ (x : 6 ≡ 17). absurd (omega arith));
      icmp = other-protocol packet 6 1 p (λ (x : 6 ≡ 1). absurd (omega arith));
    }

udp-sums : (h : Header) (n : Nonce) (pad : List ℕ) → InRange h → h.nw_proto ≡ 17
    → HasRightSums (ipv4_header h 32 (checksum (ipv4_header h 32 0)) ++ (udp_header h (udp_sum h n) ++ (payload n ++ pad)))
udp-sums h n pad r e =
    let sum : ℕ = checksum (ipv4_header h 32 0) in
    let rest : List ℕ = udp_header h (udp_sum h n) ++ (payload n ++ pad) in
    let packet : List ℕ = ipv4_header h 32 sum ++ rest in
    let p : slice_index packet 9 ≡ 17 = proto-read h 32 sum rest ∙ e in
    let t : total_of packet ≡ 52 = total-read h 32 sum rest (omega arith) in
    let bare : ℕ = checksum (pseudo_header h 32 ++ (udp_header h 0 ++ payload n)) in
    let read : number_at 2 26 packet ≡ udp_sum h n = udp-sum-read h n sum (udp_sum h n) pad (zero-small bare (omega arith)) in
    record {
      header = header-sum h 32 rest r;
      tcp = other-protocol packet 17 6 p (λ (x : 17 ≡ 6). absurd (omega arith));
      udp = λ _. ap (λ (k : ℕ). sum_of (taken packet k)) t ∙ ap sum_of (udp-taken h n sum (udp_sum h n) pad) ∙ udp-filled h n r;
      udp_has_one = λ _. λ (z : number_at 2 26 packet ≡ 0). not-zero bare (sym read ∙ z);
      icmp = other-protocol packet 17 1 p (λ (x : 17 ≡ 1). absurd (omega arith));
    }

icmp-sums : (h : Header) (n : Nonce) (pad : List ℕ) → InRange h → h.nw_proto ≡ 1
    → HasRightSums (ipv4_header h 32 (checksum (ipv4_header h 32 0)) ++ (icmp_header h (icmp_sum h n) ++ (payload n ++ pad)))
icmp-sums h n pad r e =
    let sum : ℕ = checksum (ipv4_header h 32 0) in
    let rest : List ℕ = icmp_header h (icmp_sum h n) ++ (payload n ++ pad) in
    let packet : List ℕ = ipv4_header h 32 sum ++ rest in
    let p : slice_index packet 9 ≡ 1 = proto-read h 32 sum rest ∙ e in
    let t : total_of packet ≡ 52 = total-read h 32 sum rest (omega arith) in
    record {
      header = header-sum h 32 rest r;
      tcp = other-protocol packet 1 6 p (λ (x : 1 ≡ 6). absurd (omega arith));
      udp = other-protocol packet 1 17 p (λ (x : 1 ≡ 17). absurd (omega arith));
      udp_has_one = other-protocol packet 1 17 p (λ (x : 1 ≡ 17). absurd (omega arith));
      icmp = λ _. ap (λ (k : ℕ). sum_of (drop 20 (take k packet))) t ∙ ap sum_of (icmp-taken h n sum (icmp_sum h n) pad) ∙ icmp-filled h n;
    }

not-this : (x y : ℕ) → (x == y) ≡ false → x ≢ y
not-this x y e q = absurd (let t : (x == y) ≡ true = eq-eqb _ _ q in cc)

other-sums : (h : Header) (rest : List ℕ) → InRange h → OtherForm h
    → HasRightSums (ipv4_header h 24 (checksum (ipv4_header h 24 0)) ++ rest)
other-sums h rest r f =
    let sum : ℕ = checksum (ipv4_header h 24 0) in
    let packet : List ℕ = ipv4_header h 24 sum ++ rest in
    let p : slice_index packet 9 ≡ h.nw_proto = proto-read h 24 sum rest in
    record {
      header = header-sum h 24 rest r;
      tcp = other-protocol packet h.nw_proto 6 p (not-this _ _ f.tcp);
      udp = other-protocol packet h.nw_proto 17 p (not-this _ _ f.udp);
      udp_has_one = other-protocol packet h.nw_proto 17 p (not-this _ _ f.udp);
      icmp = other-protocol packet h.nw_proto 1 p (not-this _ _ f.icmp);
    }

-- the packet in a frame
packet-laid : (c : Class) (h : Header) (n : Nonce) (ip next : List ℕ) → IsOf c h → h.dl_type ≡ 0x0800 → network_headers h n ≡ ip ++ next
    → (pad : List ℕ) × (packet_in h n ≡ ip ++ (next ++ (payload n ++ pad)))
packet-laid c h n ip next p e heads =
    let l = laid-out h n in
    let f = front-read c h (body h n ++ l.0) p (ap is_type e) in (
      l.0,
      ap (drop (ethernet_size h)) l.1
          ∙ drop_at (ethernet_header h) (body h n ++ l.0) (ethernet_size h) f.1
          ∙ packet-body h n ip next l.0 e heads,
    )

along : (packet laid : List ℕ) → packet ≡ laid → HasRightSums laid → HasRightSums packet
along packet laid e s = subst HasRightSums (sym e) s

class-sums : (c : Class) (h : Header) (n : Nonce) → IsOf c h → h.dl_type ≡ 0x0800 → HasRightSums (packet_in h n)
unfolding has_form
class-sums Tcp h n p e =
    let f = two-form h 6 p.form in
    let l = packet-laid Tcp h n (ipv4_header h 44 (checksum (ipv4_header h 44 0))) (tcp_header h (tcp_sum h n)) p e (tcp-headers h n f.proto) in
    along _ _ l.1 (tcp-sums h n l.0 p.range f.proto)
class-sums Udp h n p e =
    let f = two-form h 17 p.form in
    let l = packet-laid Udp h n (ipv4_header h 32 (checksum (ipv4_header h 32 0))) (udp_header h (udp_sum h n)) p e (udp-headers h n f.proto) in
    along _ _ l.1 (udp-sums h n l.0 p.range f.proto)
class-sums Icmp h n p e =
    let f = ip-form h 1 _ p.form in
    let l = packet-laid Icmp h n (ipv4_header h 32 (checksum (ipv4_header h 32 0))) (icmp_header h (icmp_sum h n)) p e (icmp-headers h n f.proto) in
    along _ _ l.1 (icmp-sums h n l.0 p.range f.proto)
class-sums OtherIpv4 h n p e =
    let f = other-form h p.form in
    let l = packet-laid OtherIpv4 h n (ipv4_header h 24 (checksum (ipv4_header h 24 0))) [] p e (other-headers h n f.tcp f.udp f.icmp) in
    along _ _ l.1 (other-sums h (payload n ++ l.0) p.range f)
class-sums Plain h n p e =
    let f = plain-form h p.form in
    absurd (not-this _ _ f.ip e)
class-sums Arp h n p e =
    let f = arp-form h p.form in
    absurd (not-this _ _ (ap (λ (t : ℕ). t == 0x0800) f.type) e)

pub frame-checked : (h : Header) (n : Nonce) → IsChecked h n
frame-checked h n inside e = let c = class-parts h inside in class-sums c.0 h n c.1 e
