use Rattle.std.proofs.Common.{◌≡◌, drop, length}
use Rattle.mon_header.specs.Order.{is_less}
use Rattle.mon_header.proofs.order.is_less.Given as goal

-- the lists are equal so far, so the rest decides
abbrev pub invariant-loop-i : goal.invariant-loop-i
invariant-loop-i l = (length l.xs ≡ length l.ys) × (is_less (drop l.i l.xs) (drop l.i l.ys) ≡ is_less l.xs l.ys)
