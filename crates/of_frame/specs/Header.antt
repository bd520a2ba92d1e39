-- The eight bytes that begin a frame (OpenFlow 1.0.0, header): version, type, length, xid.
use Rattle.std.specs.Prelude.{◌≡◌, ℕ, ◌+◌, ◌≤◌, List, ◌∷◌, ◌++◌, length, slice_index}
use Rattle.byteorder.specs.Endian.{big_bytes}
use Rattle.mon_fields.specs.Fields.{number_at}
use Rattle.of_frame.specs.Kinds.{VERSION}

-- the length that a header names
abbrev pub length_field : List ℕ → ℕ
length_field bytes = number_at 2 2 bytes

-- eight bytes or more, as many as the header says
pub record IsFrame (bytes : List ℕ) : Type 0 where
  pub header : 8 ≤ length bytes
  pub exact : length bytes ≡ length_field bytes

abbrev pub kind_of : List ℕ → ℕ
kind_of bytes = slice_index bytes 1

abbrev pub xid_of : List ℕ → ℕ
xid_of bytes = number_at 4 4 bytes

-- a frame of OpenFlow 1.0 with this type, xid and body
abbrev pub made : ℕ → ℕ → List ℕ → List ℕ
made kind xid body = VERSION ∷ kind ∷ (big_bytes 2 (8 + length body) ++ (big_bytes 4 xid ++ body))
