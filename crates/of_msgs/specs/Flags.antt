-- Flags of a FLOW_MOD (OpenFlow 1.0.0, modify flow entry message).
use Rattle.std.specs.Prelude.{ℕ, ◌/◌, ◌%◌, Bool, ◌==◌}

-- the flag is set, which is a power of two
abbrev pub has_flag : ℕ → ℕ → Bool
has_flag flag flags = flags / flag % 2 == 1

-- a FLOW_REMOVED is wanted when the entry goes
abbrev pub SEND_FLOW_REM : ℕ
SEND_FLOW_REM = 1

-- an overlapping entry of the same priority is an error
abbrev pub CHECK_OVERLAP : ℕ
CHECK_OVERLAP = 2

-- the entry is for the emergency table
abbrev pub EMERG : ℕ
EMERG = 4
