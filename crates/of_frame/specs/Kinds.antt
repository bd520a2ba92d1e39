-- The version and the types of messages that definitions name (OpenFlow 1.0.0, OpenFlow header).
use Rattle.std.specs.Prelude.{ℕ}

-- the version of OpenFlow 1.0
abbrev pub VERSION : ℕ
VERSION = 1

abbrev pub HELLO : ℕ
HELLO = 0

abbrev pub ERROR : ℕ
ERROR = 1

abbrev pub PACKET_OUT : ℕ
PACKET_OUT = 13

abbrev pub FLOW_MOD : ℕ
FLOW_MOD = 14
