-- What is written of a match is read again, field by field.
use Rattle.std.proofs.Common.{◌≡◌, ℕ, ◌^◌, ◌<◌, drop, refl, ap, ◌∙◌}
use Rattle.std.specs.Prelude.{slice_index}
use Rattle.byteorder.specs.Endian.{big_number}
use Rattle.byteorder.specs.Numbers.{big_number-reads_back}
use Rattle.mon_header.specs.declared.wild.Wildcards.{Wildcards}
use Rattle.mon_header.specs.Wild.{packed, unpacked}
use Rattle.mon_header.specs.Matching.{Matching, InRange, IsNormal, normal}
use Rattle.mon_header.proofs.Packing.{unpacked-packed, packed-below}
use Rattle.of_match.specs.Layout.{fields_of, match_of, spelled}

wild-read : (m : Matching) → packed m.wild < 2 ^ 32 → big_number 4 (drop 0 (spelled m)) ≡ packed m.wild
unfolding spelled
wild-read m small = big_number-reads_back 4 (packed m.wild) (drop 4 (spelled m)) small

-- each field stands at its place
record Read (m : Matching) : Type 0 where
  in_port : big_number 2 (drop 4 (spelled m)) ≡ m.fields.in_port
  dl_src : big_number 6 (drop 6 (spelled m)) ≡ m.fields.dl_src
  dl_dst : big_number 6 (drop 12 (spelled m)) ≡ m.fields.dl_dst
  dl_vlan : big_number 2 (drop 18 (spelled m)) ≡ m.fields.dl_vlan
  dl_type : big_number 2 (drop 22 (spelled m)) ≡ m.fields.dl_type
  nw_src : big_number 4 (drop 28 (spelled m)) ≡ m.fields.nw_src
  nw_dst : big_number 4 (drop 32 (spelled m)) ≡ m.fields.nw_dst
  tp_src : big_number 2 (drop 36 (spelled m)) ≡ m.fields.tp_src
  tp_dst : big_number 2 (drop 38 (spelled m)) ≡ m.fields.tp_dst
  dl_vlan_pcp : slice_index (spelled m) 20 ≡ m.fields.dl_vlan_pcp
  nw_tos : slice_index (spelled m) 24 ≡ m.fields.nw_tos
  nw_proto : slice_index (spelled m) 25 ≡ m.fields.nw_proto

read : (m : Matching) → InRange m.fields → Read m
unfolding spelled
read m r = record {
  in_port = big_number-reads_back 2 m.fields.in_port (drop 6 (spelled m)) r.in_port;
  dl_src = big_number-reads_back 6 m.fields.dl_src (drop 12 (spelled m)) r.dl_src;
  dl_dst = big_number-reads_back 6 m.fields.dl_dst (drop 18 (spelled m)) r.dl_dst;
  dl_vlan = big_number-reads_back 2 m.fields.dl_vlan (drop 20 (spelled m)) r.dl_vlan;
  dl_type = big_number-reads_back 2 m.fields.dl_type (drop 24 (spelled m)) r.dl_type;
  nw_src = big_number-reads_back 4 m.fields.nw_src (drop 32 (spelled m)) r.nw_src;
  nw_dst = big_number-reads_back 4 m.fields.nw_dst (drop 36 (spelled m)) r.nw_dst;
  tp_src = big_number-reads_back 2 m.fields.tp_src (drop 38 (spelled m)) r.tp_src;
  tp_dst = big_number-reads_back 2 m.fields.tp_dst (drop 40 (spelled m)) r.tp_dst;
  dl_vlan_pcp = refl;
  nw_tos = refl;
  nw_proto = refl;
}

fields-read : (m : Matching) → InRange m.fields → fields_of (spelled m) ≡ m.fields
unfolding fields_of
fields-read m r =
    let t : Read m = read m r in
    simp (t.in_port, t.dl_src, t.dl_dst, t.dl_vlan, t.dl_vlan_pcp, t.dl_type, t.nw_tos, t.nw_proto, t.nw_src, t.nw_dst, t.tp_src, t.tp_dst)

pub match-read : (m : Matching) → IsNormal m → match_of (spelled m) ≡ m
unfolding match_of
match-read m p =
    ap (λ (n : ℕ). normal (unpacked n) (fields_of (spelled m))) (wild-read m (packed-below m.wild p.nw_src_count p.nw_dst_count))
    ∙ (ap (λ (w : Wildcards). normal w (fields_of (spelled m))) (unpacked-packed m.wild p.nw_src_count p.nw_dst_count)
    ∙ (ap (normal m.wild) (fields-read m p.range) ∙ p.same))
