-- The layout of a match (OpenFlow 1.0.0, flow match structures): 40 bytes, numbers with their highest byte first.
use Rattle.std.specs.Prelude.{ℕ, List, ◌∷◌, ◌++◌, slice_index}
use Rattle.byteorder.specs.Endian.{big_bytes}
use Rattle.mon_fields.specs.Fields.{number_at}
use Rattle.mon_header.specs.declared.header.Header.{Header}
use Rattle.mon_header.specs.Wild.{packed, unpacked}
use Rattle.mon_header.specs.Matching.{Matching, normal}

-- the fields, each at its place; pads are left out
unfoldable pub fields_of : List ℕ → Header
fields_of bytes = record {
  in_port = number_at 2 4 bytes;
  dl_src = number_at 6 6 bytes;
  dl_dst = number_at 6 12 bytes;
  dl_vlan = number_at 2 18 bytes;
  dl_vlan_pcp = slice_index bytes 20;
  dl_type = number_at 2 22 bytes;
  nw_tos = slice_index bytes 24;
  nw_proto = slice_index bytes 25;
  nw_src = number_at 4 28 bytes;
  nw_dst = number_at 4 32 bytes;
  tp_src = number_at 2 36 bytes;
  tp_dst = number_at 2 38 bytes;
}

-- the match that the bytes say, in its normalised form
unfoldable pub match_of : List ℕ → Matching
match_of bytes = normal (unpacked (number_at 4 0 bytes)) (fields_of bytes)

-- the bytes of a match, with pads of 0 before dl_type and before nw_src
unfoldable pub spelled : Matching → List ℕ
spelled m =
    big_bytes 4 (packed m.wild)
    ++ (big_bytes 2 m.fields.in_port
    ++ (big_bytes 6 m.fields.dl_src
    ++ (big_bytes 6 m.fields.dl_dst
    ++ (big_bytes 2 m.fields.dl_vlan
    ++ (m.fields.dl_vlan_pcp ∷ 0
    ∷ (big_bytes 2 m.fields.dl_type
    ++ (m.fields.nw_tos ∷ m.fields.nw_proto ∷ 0 ∷ 0
    ∷ (big_bytes 4 m.fields.nw_src
    ++ (big_bytes 4 m.fields.nw_dst
    ++ (big_bytes 2 m.fields.tp_src
    ++ big_bytes 2 m.fields.tp_dst))))))))))
