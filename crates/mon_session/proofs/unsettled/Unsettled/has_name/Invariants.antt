use Rattle.std.proofs.Common.{◌≡◌, ◌&&◌, drop}
use Rattle.std.specs.Prelude.{not}
use Rattle.std.specs.List.{list_any}
use Rattle.mon_table.specs.Rules.{identity_of, same_identity}
use Rattle.mon_table.specs.Edits.{edited}
use Rattle.mon_session.proofs.unsettled.Unsettled.has_name.Given as goal

abbrev pub invariant-loop-place : goal.invariant-loop-place
invariant-loop-place l =
    list_any (λ p. not p.settled && same_identity (identity_of (edited p.edit)) l.name) (drop l.place l.self.edits)
    ≡ list_any (λ p. not p.settled && same_identity (identity_of (edited p.edit)) l.name) l.self.edits
