use Rattle.std.proofs.Common.{◌≡◌, drop}
use Rattle.mon_legal.specs.Edits.{rejected_by}
use Rattle.mon_session.proofs.unsettled.Unsettled.rejected.Given as goal

abbrev pub invariant-loop-place : goal.invariant-loop-place
invariant-loop-place l = rejected_by l.error (drop l.place l.self.edits) ≡ rejected_by l.error l.self.edits
