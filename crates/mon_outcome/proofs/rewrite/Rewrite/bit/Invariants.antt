use Rattle.std.proofs.Common.{◌≡◌, drop, get_or}
use Rattle.mon_outcome.specs.declared.rewrite.Bit.TheVariants.{Copied}
use Rattle.mon_outcome.specs.Filling.{laid, joined, bit_of}
use Rattle.mon_outcome.proofs.rewrite.Rewrite.bit.Given as goal

-- the bit is at what is left of the place, in the fields that are left
abbrev pub invariant-loop-count : goal.invariant-loop-count
invariant-loop-count l =
    (l.count-items ≡ laid l.self) × (get_or (joined (drop l.count-index l.count-items)) l.left Copied ≡ bit_of l.self l.place)
