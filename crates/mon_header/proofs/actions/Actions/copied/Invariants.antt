use Rattle.std.proofs.Common.{◌≡◌, take}
use Rattle.mon_header.proofs.actions.Actions.copied.Given as goal

-- the actions so far are copied
abbrev pub invariant-loop-action : goal.invariant-loop-action
invariant-loop-action l = l.items.items ≡ take l.action-index l.action-items
