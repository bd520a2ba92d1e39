use Rattle.std.proofs.Common.{◌≡◌, ◌+◌, ◌*◌, ◌^◌, ◌<◌, drop, length}
use Rattle.mon_header.specs.Places.{number}
use Rattle.mon_header.proofs.places.number.Given as goal

-- the bits so far stand above those that are left
abbrev pub invariant-loop-b : goal.invariant-loop-b
invariant-loop-b l =
    (l.n < 2 ^ l.b-index) × (l.n * 2 ^ length (drop l.b-index l.bits) + number (drop l.b-index l.bits) ≡ number l.bits)
