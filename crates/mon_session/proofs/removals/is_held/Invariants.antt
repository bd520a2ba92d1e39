use Rattle.std.proofs.Common.{◌≡◌, drop}
use Rattle.std.specs.List.{list_any}
use Rattle.mon_legal.specs.Edits.{is_identity}
use Rattle.mon_session.proofs.removals.is_held.Given as goal

abbrev pub invariant-loop-place : goal.invariant-loop-place
invariant-loop-place l = list_any (is_identity l.name) (drop l.place l.guards.items) ≡ list_any (is_identity l.name) l.guards.items
