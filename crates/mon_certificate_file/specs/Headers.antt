-- Headers as 33 bytes: their 264 bits, eight to a byte. Each field has whole bytes, the highest first.
use Rattle.std.specs.Prelude.{ℕ, ◌/◌, List}
use Rattle.std.specs.List.{flat_map}
use Rattle.byteorder.specs.Endian.{big_bytes}
use Rattle.mon_fields.specs.Fields.{number_at}
use Rattle.mon_header.specs.declared.header.Header.{Header}
use Rattle.mon_header.specs.Places.{laid}

-- the bytes of a field, given with its count of bits
abbrev pub field_bytes : ℕ × ℕ → List ℕ
field_bytes field = big_bytes (field.0 / 8) field.1

-- the bytes of the fields in their order
unfoldable pub header_bytes : Header → List ℕ
header_bytes h = flat_map field_bytes (laid h)

-- the header of 33 bytes
unfoldable pub header_from : List ℕ → Header
header_from bytes = record {
  in_port = number_at 2 0 bytes;
  dl_src = number_at 6 2 bytes;
  dl_dst = number_at 6 8 bytes;
  dl_vlan = number_at 2 14 bytes;
  dl_vlan_pcp = number_at 1 16 bytes;
  dl_type = number_at 2 17 bytes;
  nw_tos = number_at 1 19 bytes;
  nw_proto = number_at 1 20 bytes;
  nw_src = number_at 4 21 bytes;
  nw_dst = number_at 4 25 bytes;
  tp_src = number_at 2 29 bytes;
  tp_dst = number_at 2 31 bytes;
}
