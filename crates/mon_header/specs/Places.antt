-- The 264 bits of a header: its fields one after the other, the most significant bit of each first.
use Rattle.std.specs.Prelude.{ℕ, zero, suc, ◌+◌, ◌*◌, ◌^◌, Bool, false, List, [], ◌∷◌, ◌++◌, length, take, drop, get_or}
use Rattle.mon_header.specs.declared.header.Header.{Header}
use Rattle.mon_header.specs.Wild.{flag, bit}

-- how many bits a header has
abbrev pub header_size : ℕ
header_size = 264

-- the fields in their order, each with its count of bits
unfoldable pub laid : Header → List (ℕ × ℕ)
laid h =
    (16, h.in_port) ∷ (48, h.dl_src) ∷ (48, h.dl_dst) ∷ (16, h.dl_vlan) ∷ (8, h.dl_vlan_pcp) ∷ (16, h.dl_type)
    ∷ (8, h.nw_tos) ∷ (8, h.nw_proto) ∷ (32, h.nw_src) ∷ (32, h.nw_dst) ∷ (16, h.tp_src) ∷ (16, h.tp_dst) ∷ []

-- the low bits of a number, the highest of them first
abbrev pub bits_of : ℕ → ℕ → List Bool
bits_of zero x = []
bits_of (suc count) x = bit x count ∷ bits_of count x

-- the bits of fields, one field after the other
abbrev pub joined : List (ℕ × ℕ) → List Bool
joined [] = []
joined (field ∷ fields) = bits_of field.0 field.1 ++ joined fields

-- the bits of a header
abbrev pub header_bits : Header → List Bool
header_bits h = joined (laid h)

-- the bit at a place
abbrev pub bit_at : Header → ℕ → Bool
bit_at h place = get_or (header_bits h) place false

-- the number of bits, the highest first
abbrev pub number : List Bool → ℕ
number [] = 0
number (b ∷ bits) = flag b * 2 ^ length bits + number bits

-- the number in the bits of a field
abbrev pub number_at : ℕ → ℕ → List Bool → ℕ
number_at start count bits = number (take count (drop start bits))

-- the header of 264 bits
unfoldable pub header_of : List Bool → Header
header_of bits = record {
  in_port = number_at 0 16 bits;
  dl_src = number_at 16 48 bits;
  dl_dst = number_at 64 48 bits;
  dl_vlan = number_at 112 16 bits;
  dl_vlan_pcp = number_at 128 8 bits;
  dl_type = number_at 136 16 bits;
  nw_tos = number_at 152 8 bits;
  nw_proto = number_at 160 8 bits;
  nw_src = number_at 168 32 bits;
  nw_dst = number_at 200 32 bits;
  tp_src = number_at 232 16 bits;
  tp_dst = number_at 248 16 bits;
}
