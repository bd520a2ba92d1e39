-- Types of messages that the rules on sessions name (OpenFlow 1.0.0, OpenFlow header).
use Rattle.std.specs.Prelude.{ℕ}

abbrev pub ECHO_REQUEST : ℕ
ECHO_REQUEST = 2

abbrev pub ECHO_REPLY : ℕ
ECHO_REPLY = 3

abbrev pub FEATURES_REQUEST : ℕ
FEATURES_REQUEST = 5

abbrev pub FEATURES_REPLY : ℕ
FEATURES_REPLY = 6

abbrev pub SET_CONFIG : ℕ
SET_CONFIG = 9

abbrev pub PACKET_IN : ℕ
PACKET_IN = 10

abbrev pub FLOW_REMOVED : ℕ
FLOW_REMOVED = 11

abbrev pub BARRIER_REQUEST : ℕ
BARRIER_REQUEST = 18

abbrev pub BARRIER_REPLY : ℕ
BARRIER_REPLY = 19
