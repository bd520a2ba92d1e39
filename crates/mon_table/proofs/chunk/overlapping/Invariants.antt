use Rattle.std.proofs.Common.{◌≡◌, ◌++◌, drop}
use Rattle.mon_table.specs.Tables.{slice}
use Rattle.mon_table.proofs.chunk.overlapping.Given as goal

abbrev pub invariant-loop-rule : goal.invariant-loop-rule
invariant-loop-rule l = l.part.items ++ slice l.m (drop l.rule-index l.rules) ≡ slice l.m l.rules
