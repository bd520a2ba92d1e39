use Rattle.std.proofs.Common.{◌≡◌, drop}
use Rattle.mon_outcome.specs.Emitting.{any_unknown}
use Rattle.mon_outcome.proofs.door.any_unknown.Given as goal

-- none was unknown so far
abbrev pub invariant-loop-action : goal.invariant-loop-action
invariant-loop-action l = any_unknown (drop l.action-index l.actions) ≡ any_unknown l.actions
