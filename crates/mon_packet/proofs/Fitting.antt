-- What fits: the fields of headers in a class, and the parts of packets of IPv4.
use Rattle.std.proofs.Common.{◌≡◌, ◌≢◌, ℕ, ◌<◌, ◌≤◌, true, List, length, arith}
use Rattle.std.specs.Prelude.{◌==◌, nat_le, slice_index}
use Rattle.std.proofs.lemmas.Bool.{leb-true, ltb-true}
use Rattle.std.proofs.lemmas.Bool.Decides.{nat_tests}
use Rattle.mon_header.specs.declared.class.Class.{Class}
use Rattle.mon_header.specs.declared.header.Header.{Header}
use Rattle.mon_header.specs.Classes.{has_tag_fields, in_class}
use Rattle.mon_header.proofs.Twelve.{first, second}
use Rattle.mon_header.proofs.Parting.{IsOf, parts}
use Rattle.mon_header.proofs.Classing.{some-class}
use Rattle.mon_packet.specs.Reading.{total_of, is_ipv4}

pub class-parts : (h : Header) → in_class h ≡ true → (c : Class) × IsOf c h
class-parts h e = let s = (some-class h).0 e in (s.0, parts s.0 h s.1)

pub record Tagged (h : Header) : Type 0 where
  pub vlan : h.dl_vlan < 4096
  pub pcp : h.dl_vlan_pcp < 8

pub tag-fits : (h : Header) → has_tag_fields h ≡ true → h.dl_vlan ≢ 0xffff → Tagged h
unfolding has_tag_fields
tag-fits h e n = record { vlan = grind (arith, nat_tests); pcp = ltb-true _ _ (second _ _ e) }

pub untagged-pcp : (h : Header) → has_tag_fields h ≡ true → h.dl_vlan ≡ 0xffff → h.dl_vlan_pcp ≡ 0
unfolding has_tag_fields
untagged-pcp h e n = grind (arith, nat_tests)

pub record Whole (packet : List ℕ) : Type 0 where
  pub header : 20 ≤ length packet
  pub total : 20 ≤ total_of packet
  pub within : total_of packet ≤ length packet

pub ipv4-whole : (packet : List ℕ) → is_ipv4 packet ≡ true → Whole packet
unfolding is_ipv4
ipv4-whole packet e =
    let e1 = second (nat_le 20 (length packet)) _ e in
    let e2 = second (slice_index packet 0 == 0x45) _ e1 in
    let e3 = second (nat_le 20 (total_of packet)) _ e2 in
    record {
      header = leb-true _ _ (first _ _ e);
      total = leb-true _ _ (first _ _ e2);
      within = leb-true _ _ (first _ _ e3);
    }
