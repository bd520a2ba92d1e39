use Rattle.std.proofs.Common.{◌≡◌, ◌++◌, drop}
use Rattle.mon_topo.specs.Tags.{taken}
use Rattle.mon_topo.proofs.greedy.taken.Given as goal

-- the tags so far, and those of the links to come
abbrev pub invariant-loop-link : goal.invariant-loop-link
invariant-loop-link l = l.tags.items ++ taken l.switch l.given (drop l.link-index l.links) ≡ taken l.switch l.given l.links
