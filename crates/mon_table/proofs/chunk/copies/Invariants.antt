use Rattle.std.proofs.Common.{◌≡◌, ◌++◌, drop}
use Rattle.mon_table.proofs.chunk.copies.Given as goal

abbrev pub invariant-loop-rule : goal.invariant-loop-rule
invariant-loop-rule l = l.all.items ++ drop l.rule-index l.rules ≡ l.rules
