use Rattle.std.proofs.Common.{◌≡◌, ◌++◌, drop}
use Rattle.mon_encode.specs.Cases.{by_port}
use Rattle.mon_encode.proofs.listing.push_ports.Given as goal

abbrev pub invariant-loop-near : goal.invariant-loop-near
invariant-loop-near l = l.cases ++ by_port l.t l.x l.class (drop l.near-index l.links) ≡ l.fn.cases ++ by_port l.t l.x l.class l.links
