use Rattle.std.proofs.Common.{◌≡◌, take}
use Rattle.mon_plain.specs.Search.{AllOn}
use Rattle.mon_plain.proofs.pick.open_from.Given as goal

abbrev pub invariant-loop-place : goal.invariant-loop-place
invariant-loop-place l = l.from ≡ 0 → AllOn l.marks (take l.place l.f.clauses)
