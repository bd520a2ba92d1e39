-- Types and codes of the ERRORs that the proxy sends (OpenFlow 1.0.0, error message).
use Rattle.std.specs.Prelude.{ℕ}

abbrev pub BAD_REQUEST : ℕ
BAD_REQUEST = 1

-- a code of BAD_REQUEST
abbrev pub BAD_REQUEST_BAD_LEN : ℕ
BAD_REQUEST_BAD_LEN = 6

abbrev pub BAD_ACTION : ℕ
BAD_ACTION = 2

-- a code of BAD_ACTION
abbrev pub BAD_ACTION_BAD_LEN : ℕ
BAD_ACTION_BAD_LEN = 1

abbrev pub FLOW_MOD_FAILED : ℕ
FLOW_MOD_FAILED = 3

-- codes of FLOW_MOD_FAILED
abbrev pub ALL_TABLES_FULL : ℕ
ALL_TABLES_FULL = 0

abbrev pub OVERLAP : ℕ
OVERLAP = 1

abbrev pub EPERM : ℕ
EPERM = 2

abbrev pub BAD_COMMAND : ℕ
BAD_COMMAND = 4
