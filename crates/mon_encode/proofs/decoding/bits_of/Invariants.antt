use Rattle.std.proofs.Common.{◌≡◌, take}
use Rattle.mon_header.specs.Places.{header_bits}
use Rattle.mon_encode.proofs.decoding.bits_of.Given as goal

abbrev pub invariant-loop-place : goal.invariant-loop-place
invariant-loop-place l = l.bits ≡ take l.place (header_bits l.h)
