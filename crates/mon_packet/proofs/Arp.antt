-- Packets of ARP that are written are read again.
use Rattle.std.proofs.Common.{◌≡◌, ℕ, ◌-◌, ◌%◌, ◌≤◌, true, List, ◌++◌, length, drop, take, take_all, Option, Some, refl, sym, ap, ◌∙◌, arith}
use Rattle.std.proofs.lemmas.Bool.{le-leb, leb-true}
use Rattle.std.proofs.lemmas.List.{length-drop}
use Rattle.std.proofs.lemmas.Bool.Decides.{nat_tests}
use Rattle.byteorder.specs.Numbers.{big_number-reads_back}
use Rattle.mon_header.specs.declared.class.Class.TheVariants.{Arp}
use Rattle.mon_header.specs.declared.header.Header.{Header}
use Rattle.mon_header.specs.Matching.{InRange}
use Rattle.mon_header.specs.Classes.{has_form}
use Rattle.mon_header.proofs.Twelve.{first, both}
use Rattle.mon_packet.specs.declared.nonce.Nonce.{Nonce}
use Rattle.mon_packet.specs.declared.ethernet.Ethernet.{Ethernet}
use Rattle.mon_packet.specs.Frames.{payload, arp_packet}
use Rattle.mon_fields.specs.Fields.{number_at}
use Rattle.mon_packet.specs.Reading.{is_arp, plain_header, arp_fields, arp_of, nonce_of}
use Rattle.mon_packet.proofs.Choosing.{if-true}
use Rattle.mon_packet.proofs.Links.{link}
use Rattle.mon_packet.proofs.Packets.{IsNonce, nonce-read}

pub arp_long : (packet : List ℕ) → is_arp packet ≡ true → 28 ≤ length packet
unfolding is_arp
arp_long packet e = leb-true _ _ (first _ _ e)

pub arp_found : (e : Ethernet) (packet : List ℕ) (h : Header) (n : Option Nonce)
    → is_arp packet ≡ true → h ≡ arp_fields e packet → n ≡ nonce_of (take (length packet - 28) (drop 28 packet)) → Some (h, n) ≡ arp_of e packet
arp_found e packet h n t eh en =
    ap (λ (g : Header). Some (g, n)) eh
    ∙ ap (λ (m : Option Nonce). Some (arp_fields e packet, m)) en
    ∙ ap (λ (rest : List ℕ). Some (arp_fields e packet, nonce_of rest)) (take_all (length packet - 28) (drop 28 packet) (omega (arith, length-drop 28 packet)))
    ∙ sym (if-true _ _ _ t)

pub record ArpForm (h : Header) : Type 0 where
  pub type : h.dl_type ≡ 0x0806
  pub tos : h.nw_tos ≡ 0
  pub tp_src : h.tp_src ≡ 0
  pub tp_dst : h.tp_dst ≡ 0

pub arp-form : (h : Header) → has_form Arp h ≡ true → ArpForm h
unfolding has_form
arp-form h e = record {
  type = grind (arith, nat_tests);
  tos = grind (arith, nat_tests);
  tp_src = grind (arith, nat_tests);
  tp_dst = grind (arith, nat_tests);
}

-- what a packet says, whatever stands behind it
is-read : (h : Header) (rest : List ℕ) → is_arp (arp_packet h ++ rest) ≡ true
unfolding is_arp arp_packet
is-read h rest = both _ _ (le-leb 28 (length (arp_packet h ++ rest)) (omega arith)) refl

operation-read : (h : Header) (rest : List ℕ) → InRange h → number_at 2 6 (arp_packet h ++ rest) % 256 ≡ h.nw_proto
unfolding arp_packet
operation-read h rest r =
    let e : number_at 2 6 (arp_packet h ++ rest) ≡ h.nw_proto =
    big_number-reads_back 2 h.nw_proto (drop 8 (arp_packet h ++ rest)) (let small = r.nw_proto in omega arith) in
    rw e (let small = r.nw_proto in omega arith)

src-read : (h : Header) (rest : List ℕ) → InRange h → number_at 4 14 (arp_packet h ++ rest) ≡ h.nw_src
unfolding arp_packet
src-read h rest r = big_number-reads_back 4 h.nw_src (drop 18 (arp_packet h ++ rest)) r.nw_src

dst-read : (h : Header) (rest : List ℕ) → InRange h → number_at 4 24 (arp_packet h ++ rest) ≡ h.nw_dst
unfolding arp_packet
dst-read h rest r = big_number-reads_back 4 h.nw_dst rest r.nw_dst

behind : (h : Header) (rest : List ℕ) → drop 28 (arp_packet h ++ rest) ≡ rest
unfolding arp_packet
behind h rest = refl

fields-read : (h : Header) (rest : List ℕ) → InRange h → ArpForm h → arp_fields (link h) (arp_packet h ++ rest) ≡ record h { in_port = 0 }
unfolding arp_fields plain_header
fields-read h rest r f = simp (operation-read h rest r, src-read h rest r, dst-read h rest r, f.tos, f.tp_src, f.tp_dst)

pub arp-read : (h : Header) (n : Nonce) (pad : List ℕ) → InRange h → ArpForm h → IsNonce n
    → arp_of (link h) (arp_packet h ++ (payload n ++ pad)) ≡ Some (record h { in_port = 0 }, Some n)
arp-read h n pad r f k =
    let rest : List ℕ = payload n ++ pad in
    if-true _ _ _ (is-read h rest)
    ∙ ap (λ (g : Header). Some (g, nonce_of (drop 28 (arp_packet h ++ rest)))) (fields-read h rest r f)
    ∙ ap (λ (bytes : List ℕ). Some (record h { in_port = 0 }, nonce_of bytes)) (behind h rest)
    ∙ ap (λ (m : Option Nonce). Some (record h { in_port = 0 }, m)) (nonce-read n pad k)
