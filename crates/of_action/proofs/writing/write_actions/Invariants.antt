use Rattle.std.proofs.Common.{◌≡◌, take}
use Rattle.of_action.specs.Layout.{spelled}
use Rattle.of_action.proofs.writing.write_actions.Given as goal

abbrev pub invariant-loop-action : goal.invariant-loop-action
invariant-loop-action l = l.out.items ≡ spelled (take l.action-index l.action-items)
