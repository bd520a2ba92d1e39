use Rattle.std.proofs.Common.{◌≡◌, drop}
use Rattle.mon_outcome.specs.Acting.{apply}
use Rattle.mon_outcome.proofs.act.apply.Given as goal

-- the actions that are left make the rest of it
abbrev pub invariant-loop-action : goal.invariant-loop-action
invariant-loop-action l = (l.action-items ≡ l.a) × (apply (drop l.action-index l.a) l.header ≡ apply l.a l.h)
