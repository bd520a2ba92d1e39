use Rattle.std.proofs.Common.{◌≡◌, ◌++◌, drop}
use Rattle.mon_outcome.specs.Shaping.{shapes_from, shapes_of}
use Rattle.mon_outcome.proofs.shape.rewrites.Given as goal

-- the shapes of the actions that are left stand behind those so far
abbrev pub invariant-loop-action : goal.invariant-loop-action
invariant-loop-action l =
    (l.action-items ≡ l.a)
    × (l.shapes ++ shapes_from l.class l.in_port (drop l.action-index l.a) l.bits ≡ shapes_of l.a l.class l.in_port)
