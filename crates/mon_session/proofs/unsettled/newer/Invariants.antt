use Rattle.std.proofs.Common.{◌≡◌, ◌+◌, drop}
use Rattle.mon_session.specs.Passing.{newer}
use Rattle.mon_session.proofs.unsettled.newer.Given as goal

abbrev pub invariant-loop-place : goal.invariant-loop-place
invariant-loop-place l = l.place + newer l.number (drop l.place l.edits.items) ≡ newer l.number l.edits.items
