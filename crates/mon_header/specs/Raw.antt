-- The bytes of an action whose type is in no table.
use Rattle.std.specs.Prelude.{◌≡◌, ℕ, ◌%◌, ◌<◌, ◌≤◌, List, length}
use Rattle.mon_fields.specs.Fields.{number_at}
use Rattle.mon_header.specs.ActionTypes.{ENQUEUE}

-- a type above those of the standard's table, and a length that is a multiple of 8 and that of the bytes
pub record IsRawAction (bytes : List ℕ) : Type 0 where
  pub header : 8 ≤ length bytes
  pub unknown : ENQUEUE < number_at 2 0 bytes
  pub exact : number_at 2 2 bytes ≡ length bytes
  pub whole : length bytes % 8 ≡ 0
