use Rattle.std.proofs.Common.{length}
use Rattle.mon_table_file.proofs.Ruling.{RulesSoFar}
use Rattle.mon_table_file.proofs.sections.rules_at.Given as goal

abbrev pub invariant-loop-table : goal.invariant-loop-table
invariant-loop-table l = RulesSoFar l.second l.text l.table l.rest

abbrev pub decreases-loop-table : goal.decreases-loop-table
decreases-loop-table l = length l.rest
