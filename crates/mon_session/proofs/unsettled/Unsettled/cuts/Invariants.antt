use Rattle.std.proofs.Common.{◌≡◌, ◌+◌, drop}
use Rattle.mon_legal.specs.Edits.{cuts}
use Rattle.mon_session.proofs.unsettled.Unsettled.cuts.Given as goal

abbrev pub invariant-loop-place : goal.invariant-loop-place
invariant-loop-place l = l.count + cuts (drop l.place l.self.edits) ≡ cuts l.self.edits
