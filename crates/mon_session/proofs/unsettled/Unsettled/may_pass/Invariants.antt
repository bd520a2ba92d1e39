use Rattle.std.proofs.Common.{◌≡◌, drop}
use Rattle.mon_legal.specs.Edits.{may_pass}
use Rattle.mon_session.proofs.unsettled.Unsettled.may_pass.Given as goal

abbrev pub invariant-loop-place : goal.invariant-loop-place
invariant-loop-place l = may_pass l.m (drop l.place l.self.edits) ≡ may_pass l.m l.self.edits
