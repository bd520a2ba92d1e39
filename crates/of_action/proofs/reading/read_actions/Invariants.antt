use Rattle.std.proofs.Common.{◌≡◌, ◌≤◌, ◌-◌, length, drop}
use Rattle.of_action.specs.Reading.{actions_from, actions_of}
use Rattle.of_action.proofs.Loop.{onto}
use Rattle.of_action.proofs.reading.read_actions.Given as goal

-- the actions so far, before those of the bytes that are left, are those of all the bytes
abbrev pub invariant-loop-place : goal.invariant-loop-place
invariant-loop-place l = record {
  within : l.place ≤ length l.bytes;
  told : onto l.actions (actions_from l.place 0 (drop l.place l.bytes)) ≡ actions_of l.bytes;
}

abbrev pub decreases-loop-place : goal.decreases-loop-place
decreases-loop-place l = length l.bytes - l.place
