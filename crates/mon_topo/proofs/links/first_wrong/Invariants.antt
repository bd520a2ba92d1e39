use Rattle.std.proofs.Common.{◌≡◌, [], take, drop}
use Rattle.mon_topo.specs.Links.{first_wrong}
use Rattle.mon_topo.proofs.links.first_wrong.Given as goal

-- the first fault stands behind the links so far
abbrev pub invariant-loop-i : goal.invariant-loop-i
invariant-loop-i l = first_wrong l.switches (take l.i l.links) l.i (drop l.i l.links) ≡ first_wrong l.switches [] 0 l.links
