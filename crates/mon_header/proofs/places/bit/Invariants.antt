use Rattle.std.proofs.Common.{◌≡◌, false, drop, get_or}
use Rattle.mon_header.specs.Places.{laid, joined, bit_at}
use Rattle.mon_header.proofs.places.bit.Given as goal

-- the bit is at what is left of the place, in the fields that are left
abbrev pub invariant-loop-count : goal.invariant-loop-count
invariant-loop-count l = (l.count-items ≡ laid l.h) × (get_or (joined (drop l.count-index l.count-items)) l.left false ≡ bit_at l.h l.place)
