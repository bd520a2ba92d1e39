-- The numbers that name no buffer and no port (OpenFlow 1.0.0, packet-in message and port structures).
use Rattle.std.specs.Prelude.{ℕ}

abbrev pub NO_BUFFER : ℕ
NO_BUFFER = 0xffffffff

-- the standard's OFPP_NONE
abbrev pub NO_PORT : ℕ
NO_PORT = 0xffff
