use Rattle.std.proofs.Common.{◌≡◌, [], drop}
use Rattle.mon_topo.specs.Tags.{greedy}
use Rattle.mon_topo.proofs.greedy.greedy.Given as goal

-- the switches to come get their tags after those so far
abbrev pub invariant-loop-switch : goal.invariant-loop-switch
invariant-loop-switch l =
    greedy l.links l.tags l.given.items (drop l.switch-index l.switch-items) ≡ greedy l.links l.tags [] l.switch-items
